-- A satisfying cut splits an order in halves.
use Rattle.draw_layout.proofs.Words.{◌≡◌, ◌∙◌, ◌<◌, ◌↔◌, ℕ, true, false, List, Bool, slice_index, slice_index_or, Some}
use Rattle.draw_layout.proofs.Words.{None, Option, sym, ap, subst, inl, inr, cases_Bool, Task, IsFitOrder, IsEventAt}
use Rattle.draw_layout.proofs.Words.{AreSendAndReceive, IsOfHalf, IsClosed, AreIntervals}
use Rattle.wcp_model.specs.Computation.{interval_at}
use Rattle.wcp_model.specs.Cut.{Intervals}
use Rattle.wcp_model.specs.WorkloadComputation.{computation_of}
use Rattle.draw_layout.specs.Halves.{HasMember, IsBefore, AreHalves, MaySplit}
use Rattle.draw_layout.proofs.Laying.{event_of_task, send_event, receive_event}
use Rattle.draw_layout.proofs.Past.{member_before, past_own, past_message}

module _ (n : ℕ) (order : List Task) where
  -- communication event k of process p stands before the cut
  abbrev pub Before : Option Intervals → ℕ → ℕ → Type 0
  Before = IsBefore (computation_of n order)

  -- where the process has a member, those of the intervals below it do
  pub before_member : (cut : Option Intervals) → MaySplit n order cut → (p k m : ℕ) → HasMember cut p m
      → Before cut p k ↔ (k < m)
  before_member None may p k m has = absurd has
  before_member (Some cut) may p k m has = member_before n may.0 (computation_of n order) cut may.1 p k m has

  module _ (fit : IsFitOrder order order) where
    earlier_is_before : (cut : Option Intervals) (p i j : ℕ) → j < i
        → Before cut p (interval_at (computation_of n order) p i)
        → Before cut p (interval_at (computation_of n order) p j)
    earlier_is_before None p i j less before = tt
    earlier_is_before (Some cut) p i j less before = past_own n order fit cut p i j less before

    send_is_before : (cut : Option Intervals) (sent received : ℕ) (message : AreSendAndReceive order sent received)
        → Before cut message.to (interval_at (computation_of n order) message.to received)
        → Before cut message.from (interval_at (computation_of n order) message.from sent)
    send_is_before None sent received message before = tt
    send_is_before (Some cut) sent received message before = past_message n order fit cut sent received message before

    pub closed_halves : (cut : Option Intervals) (halves : List Bool) → AreHalves n order cut halves
        → IsClosed order halves
    closed_halves cut halves of = record {
      own = λ p i j at_i at_j less own. (of.each p j at_j).1
          (earlier_is_before cut p i j less ((of.each p i at_i).0 own));
      message = λ sent received message own. (of.each message.from sent (send_event message)).1
          (send_is_before cut sent received message ((of.each message.to received (receive_event message)).0 own));
    }

  module _ (cut : Option Intervals) (halves : List Bool) (of : AreHalves n order cut halves) (intervals : List ℕ)
      (are : AreIntervals n order intervals) (p i : ℕ) (event : IsEventAt order p i) where
    interval_here : slice_index intervals i ≡ interval_at (computation_of n order) p i
    interval_here = are.each i event.task event.at
        ∙ ap (λ q. interval_at (computation_of n order) q i) (event_of_task event)

    -- an event is of the first half if it stands before the cut, and else of the second
    pub half_before : Before cut p (slice_index intervals i) → IsOfHalf halves true i
    half_before before = (of.each p i event).1 (subst (Before cut p) interval_here before)

    pub half_behind : (Before cut p (slice_index intervals i) → ⊥) → IsOfHalf halves false i
    half_behind behind = elim (cases_Bool (slice_index_or halves i false)) [
      | inl own ↦ absurd (behind (subst (Before cut p) (sym interval_here) ((of.each p i event).0 own)))
      | inr other ↦ other
    ]
