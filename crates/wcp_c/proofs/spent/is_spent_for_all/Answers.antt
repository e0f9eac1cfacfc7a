use Rattle.std.proofs.Common.{[], subst}
use Rattle.std.specs.Prelude.{All}
use Rattle.std.proofs.lemmas.List.Elements.{All-cons, All-nil}
use Rattle.wcp_queue.specs.Checker.{CheckerState}
use Rattle.wcp_c.specs.Tags.{IsSpent}
use Rattle.wcp_c.proofs.spent.is_spent_for_all.Goals as goal

pub returns-in-One : goal.returns-in-One
returns-in-One c = λ yes. rw c.in-One.is
    (All-cons (λ (checker : CheckerState). IsSpent checker c.args.tagged.now) c.in-One.checker []
    (c.is_spent.ensures yes)
    (All-nil (λ (checker : CheckerState). IsSpent checker c.args.tagged.now)))

pub returns-in-Many : goal.returns-in-Many
returns-in-Many c = λ yes. rw c.in-Many.is
    (subst (All (λ (checker : CheckerState). IsSpent checker c.args.tagged.now)) c.panel.ensures.value
    (c.is_spent_in.ensures yes))
