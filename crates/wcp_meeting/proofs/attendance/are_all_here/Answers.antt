use Rattle.std.proofs.Common.{◌∙◌, sym, ap, arith, Bool, get_or, drop, None, ◌+◌}
use Rattle.std.specs.Prelude.{◌&&◌, is_some}
use Rattle.std.specs.FinSet as set
use Rattle.wcp_meeting.specs.Steps.{all_here_from}
use Rattle.wcp_meeting.proofs.Steps.{all-more, missing, not-missing}
use Rattle.wcp_meeting.proofs.attendance.are_all_here.Goals as goal

pub loop-process-preserved : goal.loop-process-preserved
loop-process-preserved c =
    let members = c.args.members.now in
    let here = c.args.here.now in
    let p = c.loop-process.process in
    let rest = all_here_from (p + 1) members (drop (p + 1) here) in
    let there = not-missing (set.contains members p) (is_some (get_or here p None))
    (sym c.is_missing.ensures ∙ c.if-is_missing.false) in
    sym (all-more members here p None (omega (arith, c.loop-process-test.true, c.told-here))
    ∙ ap (λ (b : Bool). b && rest) there) ∙ c.loop-process.invariant

pub returns-then-is_missing : goal.returns-then-is_missing
returns-then-is_missing c =
    let members = c.args.members.now in
    let here = c.args.here.now in
    let p = c.loop-process.process in
    let rest = all_here_from (p + 1) members (drop (p + 1) here) in
    let gone = missing (set.contains members p) (is_some (get_or here p None))
    (sym c.is_missing.ensures ∙ c.if-is_missing.true) in
    sym (sym c.loop-process.invariant
    ∙ all-more members here p None (omega (arith, c.loop-process-test.true, c.told-here))
    ∙ ap (λ (b : Bool). b && rest) gone)
