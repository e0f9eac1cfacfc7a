use Rattle.wcp_model.specs.Replies.{accepted, computation}
use Rattle.std.proofs.Common.{sym, ap, ◌∙◌, length}
use Rattle.wcp_model.specs.Report.{clocks_taken}
use Rattle.wcp_world.proofs.LostMarks.{clocks_without}
use Rattle.wcp_world.proofs.world.World.tally.Goals as goal

pub returns : goal.returns
returns c = rw (← c.self.view_is) (λ plan history is.
    let (notes, are, count) = c.emitted.ensures plan.n plan.watched plan.flag
    (computation (accepted history)) is.stands.put is.stands.processes in
    record {
      notes = notes;
      are = are;
      emitted = count;
      taken = c.taken.ensures.snapshots is.stands.handed is.stands.checker
          ∙ ap length (sym (clocks_without _ is.stands.handed) ∙ ap (clocks_taken _) (sym is.stands.taken_are));
    })
