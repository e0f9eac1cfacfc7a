use Rattle.std.proofs.Common.{ℕ, ◌<◌, ◌^◌, arith}
use Rattle.std.proofs.lemmas.Grind.{common_steps}
use Rattle.std.proofs.lemmas.List.{take_more, append_assoc}
use Rattle.std.proofs.lemmas.List.Elements.{All-more}
use Rattle.wcp_saved.proofs.writing.put_intervals.Goals as goal

pub loop-p-preserved : goal.loop-p-preserved
loop-p-preserved c =
    let so_far = c.loop-p.invariant in
    record {
      words = grind (arith, common_steps, take_more, append_assoc);
      range = All-more (λ (number : ℕ). number < 2 ^ 32) c.args.intervals.now c.loop-p.p 0 (grind arith) so_far.range
          (grind (arith, common_steps));
    }
