-- Which questions can be asked of a plan.
use Rattle.std.proofs.Common.{◌≡◌, ℕ, zero, suc, true, List, [], ◌∷◌, ◌++◌, length, Some, slice_get, subst}
use Rattle.std.specs.FinSet as set
use Rattle.wcp_clock.specs.ProcessNumbers.{NumberSet}
use Rattle.wcp_model.proofs.CheckedPlans.{some_watched}
use Rattle.wcp_model.specs.PlanFault.{IsCheckedPlan}
use Rattle.wcp_model.specs.Watched.{AreSomeWatched}
use Rattle.wcp_model.specs.declared.plan.Plan.{Plan}
use Rattle.wullaphi.specs.Questions.{CanBeAsked}

-- a question that can be asked of a plan without a fault watches some of its processes
pub watches_some : (plan : Plan) (watched : NumberSet) → IsCheckedPlan plan → CanBeAsked plan watched
    → AreSomeWatched plan.n watched
watches_some plan watched checked can = record {
  some = can.some;
  within = λ p member. (some_watched plan checked).within p (can.within p member);
}

-- and the one of all watched processes can be asked
pub all_can_be_asked : (plan : Plan) → IsCheckedPlan plan → CanBeAsked plan plan.watched
all_can_be_asked plan checked = record { some = (some_watched plan checked).some; within = λ p member. member }

-- what holds of each element at its place, and of one more, holds of all
pub of_more : {X : Type 0} (Holds : ℕ → X → Type 0) (xs : List X) (x : X) (k : ℕ) (one : X)
    → slice_get (xs ++ x ∷ []) k ≡ Some one
    → ((k : ℕ) (one : X) → slice_get xs k ≡ Some one → Holds k one) → Holds (length xs) x → Holds k one
of_more Holds [] x zero one at each last = let same : x ≡ one = cc in subst (Holds 0) same last
of_more Holds [] x (suc k) one at each last = absurd (cc)
of_more Holds (y ∷ xs) x zero one at each last = each zero one at
of_more Holds (y ∷ xs) x (suc k) one at each last =
    of_more (λ n. Holds (suc n)) xs x k one at (λ j other there. each (suc j) other there) last
