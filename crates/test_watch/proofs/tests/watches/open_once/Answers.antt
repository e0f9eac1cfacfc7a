use Rattle.std.proofs.Common.{[], arith}
use Rattle.std.proofs.lemmas.List.Elements.{All-cons, All-nil}
use Rattle.wcp_model.proofs.CheckedPlans.{few_processes, some_watched}
use Rattle.wcp_model.specs.Watched.{AreSomeWatched}
use Rattle.wcp_watch.proofs.ToldReports.{fresh_for}
use Rattle.test_watch.proofs.tests.watches.open_once.Goals as goal

pub new-requires-clause-watched : goal.new-requires-clause-watched
new-requires-clause-watched c =
    let plan = c.args.plan.now in
    All-cons (AreSomeWatched plan.n) plan.watched [] (some_watched plan c.requires) (All-nil _)

pub new-requires-clause-few : goal.new-requires-clause-few
new-requires-clause-few c = few_processes c.args.plan.now c.requires

pub returns-clause-fresh : goal.returns-clause-fresh
returns-clause-fresh c =
    let made = c.in_ok-panel.ensures in
    let wired = c.in_ok-watch.ensures in
    fresh_for wired.members wired.none_taken made.questions (omega arith) made.processes made.empty made.not_starved
