use Rattle.std.specs.Prelude.{◌≡◌, ℕ, ◌<◌, ◌↔◌, List, ◌++◌}
use Rattle.wcp_clock.specs.ProcessNumbers.{NumberSet}
use Rattle.wcp_clock.specs.declared.note.Note.{Note}
use Rattle.wcp_model.specs.declared.flag.Flag.{Flag}
use Rattle.wcp_model.specs.declared.plan.Plan.{Plan}
use Rattle.wcp_model.specs.declared.state.State.{State}
use Rattle.wcp_model.specs.Computation.{Computation, IsState}
use Rattle.wcp_model.specs.Order.{HappenedBefore}
use Rattle.wcp_model.specs.Cut.{Intervals, IsLeastCut}
use Rattle.wcp_model.specs.Emission.{AreEmissions}
use Rattle.wcp_model.specs.Replies.{Answered, accepted, computation, AreReplies}

-- A computation of n processes grows into another: no order is added between states that exist (Lamport 1978: what
-- happened before a state stands before it), and the emissions of each process grow at their end alone.
pub record GrowsInto (n : ℕ) (watched : NumberSet) (flag : Flag) (c d : Computation) : Type 0 where
  pub order : (s t : State) → IsState c s → IsState c t → HappenedBefore c s t ↔ HappenedBefore d s t
  pub emissions : (p : ℕ) (notes more : List Note) → p < n → AreEmissions n watched flag c p notes →
      AreEmissions n watched flag d p more →
      (rest : List Note) × (more ≡ notes ++ rest)

-- The growth law: where each step of a history has the reply that the definitions give, the computation of each prefix
-- of the history grows into that of the whole.
abbrev pub GrowthLaw : Type 0
GrowthLaw = (plan : Plan) (history more : List Answered) → AreReplies plan (history ++ more) →
    GrowsInto plan.n plan.watched plan.flag (computation (accepted history)) (computation (accepted (history ++ more)))

-- The early-find law: the least cut of a computation is the least cut of each longer one (Garg and Waldecker 1994: so
-- the first cut can be found while the computation goes on).
abbrev pub EarlyFindLaw : Type 0
EarlyFindLaw = (n : ℕ) (watched : NumberSet) (c more : Computation) (cut : Intervals) → IsLeastCut n watched c cut →
    IsLeastCut n watched (c ++ more) cut
