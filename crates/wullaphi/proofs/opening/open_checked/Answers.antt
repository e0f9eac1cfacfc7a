use Rattle.std.proofs.Common.{[], subst, sym}
use Rattle.std.proofs.lemmas.List.Elements.{All-cons, All-nil}
use Rattle.wcp_model.specs.Watched.{AreSomeWatched}
use Rattle.wcp_model.proofs.CheckedPlans.{few_processes, some_watched}
use Rattle.wullaphi.proofs.OwnWatches.{fresh_watch}
use Rattle.wullaphi.specs.Opened.{IsFreshWatch}
use Rattle.wullaphi.proofs.opening.open_checked.Goals as goal

pub new-requires-clause-watched : goal.new-requires-clause-watched
new-requires-clause-watched c =
    let plan = c.args.plan.now in
    All-cons (AreSomeWatched plan.n) plan.watched [] (some_watched plan c.requires) (All-nil _)

pub new-requires-clause-few : goal.new-requires-clause-few
new-requires-clause-few c = few_processes c.args.plan.now c.requires

pub invariant_of-result : goal.invariant_of-result
invariant_of-result c =
    let made = c.in_ok-panel.ensures in
    let tree = c.in_ok-tree.tree in
    subst (λ plan. IsFreshWatch (record { plan = plan; tree = tree }) c.args.plan.now.n c.in_ok-panel.panel)
    (sym c.of.ensures)
    (fresh_watch c.requires c.in_ok-tree.ensures made.processes made.questions made.empty made.not_starved)
