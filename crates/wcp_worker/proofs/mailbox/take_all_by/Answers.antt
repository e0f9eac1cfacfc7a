use Rattle.wcp_worker.proofs.Words.{ℕ, Option, Some, sym, subst, OnOk, Inbox, IfBoth, HasTakenMore}
use Rattle.wcp_worker.proofs.mailbox.take_all_by.Goals as goal

pub returns-in-Some : goal.returns-in-Some
returns-in-Some g c =
    subst (λ (old : Option Inbox). OnOk c.take_rest.result
    ((q : ℕ) → IfBoth (HasTakenMore q) old (Some c.take_rest.new.self)))
    (sym c.in-Some.is) c.take_rest.ensures
