-- What is seen of a computation of which some steps leave no trace.
use Rattle.std.specs.Prelude.{◌≡◌, ℕ, ◌<◌, true, length, slice_get, Some}
use Rattle.wcp_clock.specs.ProcessNumbers.{NumberSet}
use Rattle.wcp_model.specs.declared.outcome.Report.TheVariants.{Nothing}
use Rattle.wcp_model.specs.declared.state.State.{State}
use Rattle.wcp_model.specs.declared.step.Step.{Step}
use Rattle.wcp_model.specs.declared.step.Step.TheVariants.{Observe, Recv, Send}
use Rattle.wcp_model.specs.Computation.{Computation, interval_at, message_at}
use Rattle.wcp_model.specs.Cut.{Intervals, IsSatisfyingCut, interval_of}
use Rattle.wcp_model.specs.Order.{HappenedBefore}
use Rattle.wcp_model.specs.Outcome.{IsReportOf}
use Rattle.wcp_model.specs.Watched.{IsWatched}

-- A step whose message, if it receives one, has its number in another computation.
abbrev pub renumbered : (ℕ → ℕ) → Step → Step
renumbered number (Recv to message) = Recv to (number message)
renumbered number step = step

-- One computation is what is seen of another: some of its steps, in their order, among them each observation that found
-- a condition true. A message is the one that is sent in both, and may be received in the other alone.
pub record IsSeenOf (seen c : Computation) : Type 0 where
  pub place : ℕ → ℕ
  pub number : ℕ → ℕ
  pub in_order : (i j : ℕ) → i < j → j < length seen → place i < place j
  pub steps : (i : ℕ) (step : Step) → slice_get seen i ≡ Some step
      → slice_get c (place i) ≡ Some (renumbered number step)
  pub sends : (i from to : ℕ) → slice_get seen i ≡ Some (Send from to)
      → number (message_at seen i) ≡ message_at c (place i)
  pub observed : (at p : ℕ) → slice_get c at ≡ Some (Observe p true)
      → (i : ℕ) × (place i ≡ at) × (slice_get seen i ≡ Some (Observe p true))

-- The state that a process is in at a place.
abbrev pub state_at : Computation → ℕ → ℕ → State
state_at c p place = record { process = p; interval = interval_at c p place }

-- What happened before by what is seen happened before.
abbrev pub UnseenBeforeLaw : Type 0
UnseenBeforeLaw =
    (seen c : Computation) (is : IsSeenOf seen c) (p q i j : ℕ) → i < length seen → j < length seen →
    HappenedBefore seen (state_at seen p i) (state_at seen q j) →
    HappenedBefore c (state_at c p (is.place i)) (state_at c q (is.place j))

-- One observation of a process found its condition true in this interval of the whole computation, and in this one of
-- what is seen.
pub record IsObservedIn (seen c : Computation) (is : IsSeenOf seen c) (p whole part : ℕ) : Type 0 where
  pub at : ℕ
  pub observed : slice_get seen at ≡ Some (Observe p true)
  pub in_whole : interval_at c p (is.place at) ≡ whole
  pub in_part : interval_at seen p at ≡ part

-- The law of unseen order: each satisfying cut is, by its observations, a satisfying cut of what is seen.
abbrev pub UnseenOrderLaw : Type 0
UnseenOrderLaw =
    (n : ℕ) (watched : NumberSet) (seen c : Computation) (is : IsSeenOf seen c) (cut : Intervals) →
    IsSatisfyingCut n watched c cut → (other : Intervals) × IsSatisfyingCut n watched seen other ×
    ((p : ℕ) → IsWatched n watched p → IsObservedIn seen c is p (interval_of cut p) (interval_of other p))

-- So where what is seen has no satisfying cut, the computation has none.
abbrev pub UnseenNothingLaw : Type 0
UnseenNothingLaw =
    (n : ℕ) (watched : NumberSet) (seen c : Computation) → IsSeenOf seen c → IsReportOf n watched seen Nothing →
    IsReportOf n watched c Nothing
