use Rattle.std.proofs.Common.{refl, sym, ◌∙◌}
use Rattle.wcp_model.proofs.CheckedPlans.{few_processes}
use Rattle.wcp_watch.proofs.ToldReports.{fresh_for}
use Rattle.wullaphi.proofs.Asked.{watches_some}
use Rattle.wullaphi.proofs.Ready.{all_ready}
use Rattle.wullaphi.proofs.watching.open_parts.Goals as goal

pub seat_all-requires : goal.seat_all-requires
seat_all-requires g c = c.requires.count ∙ sym c.in_ok-probes.ensures.rings.probes_count

pub new-requires-clause-watched : goal.new-requires-clause-watched
new-requires-clause-watched g c = λ k d within.
    watches_some c.args.plan.now _ c.requires.checked (c.requires.asked k d within)

pub new-requires-clause-few : goal.new-requires-clause-few
new-requires-clause-few g c = few_processes c.args.plan.now c.requires.checked

pub returns-clause-parts : goal.returns-clause-parts
returns-clause-parts g c =
    let wired = c.in_ok-probes.ensures in
    let made = c.in_ok-panel.ensures in
    record {
      watch = c.in_ok-probes.field-0;
      wired = wired;
      probes = c.in_ok-workers.ensures.probes;
      processes_are = c.in_ok-workers.ensures.processes;
      relays = refl;
      inbox = refl;
      watched = made.questions;
      fresh = fresh_for wired.members wired.none_taken made.questions c.requires.some made.processes made.empty
          made.not_starved;
    }

pub returns-clause-ready : goal.returns-clause-ready
returns-clause-ready g c = all_ready (returns-clause-parts g c)
