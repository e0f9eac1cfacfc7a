use Rattle.wcp_worker.proofs.Words.{ℕ, HasTakenMore}
use Rattle.wcp_worker.proofs.lane_ends.Inbox.take_rest.Given as goal

abbrev pub invariant-loop : goal.invariant-loop
invariant-loop g l = (q : ℕ) → HasTakenMore q l.initial.self l.self
