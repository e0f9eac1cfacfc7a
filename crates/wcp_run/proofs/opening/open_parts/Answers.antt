use Rattle.std.proofs.Common.{◌≡◌, ◌∷◌, [], List, refl, arith, sym, ◌∙◌}
use Rattle.std.proofs.lemmas.List.Elements.{All-cons, All-nil}
use Rattle.wcp_model.specs.Watched.{AreSomeWatched}
use Rattle.wcp_model.proofs.CheckedPlans.{some_watched}
use Rattle.wcp_relay.proofs.FreshProbes.{probes_fresh}
use Rattle.wcp_watch.proofs.ToldReports.{fresh_for}
use Rattle.wcp_run.proofs.opening.open_parts.Goals as goal

pub open_workers-requires-clause-probes : goal.open_workers-requires-clause-probes
open_workers-requires-clause-probes c =
    probes_fresh c.args.workload.now.plan 0 c.in_ok-probes.field-0 c.in_ok-probes.ensures

pub new-requires-clause-watched : goal.new-requires-clause-watched
new-requires-clause-watched c =
    let plan = c.args.workload.now.plan in
    All-cons (AreSomeWatched plan.n) plan.watched [] (some_watched plan c.requires.checked) (All-nil _)

pub returns : goal.returns
returns c =
    let wired = c.in_ok-probes.ensures in
    let made = c.in_ok-panel.ensures in
    record {
      number = 0;
      watch = c.in_ok-probes.field-0;
      wired = wired;
      workers = c.in_ok-workers.ensures;
      relays = refl;
      inbox = refl;
      watched = made.questions;
      fresh = fresh_for wired.members wired.none_taken made.questions (omega arith) made.processes made.empty
          made.not_starved;
    }
