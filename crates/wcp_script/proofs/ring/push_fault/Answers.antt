use Rattle.wcp_script.proofs.Words.{◌-◌, ◌++◌, ap, ◌∙◌, arith, flat_map, range_with_len, finds_both}
use Rattle.wcp_script.proofs.Ranges.{pieces_more}
use Rattle.wcp_script.proofs.ring.push_fault.Goals as goal

pub loop-p-preserved : goal.loop-p-preserved
loop-p-preserved c =
    let old = c.args.tasks.now.items in
    let more =
    pieces_more finds_both 1 (c.loop-p.p - 1) c.loop-p.p old c.loop-p.tasks.items c.push_findings.new.tasks.items
    (omega (arith, c.loop-p.invariant.from_one)) c.loop-p.invariant.tasks c.in_ok-push_findings.ensures in
    record {
      from_one = omega arith;
      tasks = more
          ∙ ap (λ len. old ++ flat_map finds_both (range_with_len 1 len)) (omega (arith, c.loop-p.invariant.from_one));
    }
