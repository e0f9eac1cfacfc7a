use Rattle.wcp_model.proofs.Words.{◌≡◌, ◌≢◌, ℕ, ◌+◌, ◌<◌, ◌↔◌, max, List, length, replicate, slice_get, slice_index}
use Rattle.wcp_model.proofs.Words.{slice_set, Some, refl, sym, ◌∙◌, subst, arith, cases_eq, length-set}
use Rattle.wcp_model.proofs.Words.{length-replicate, get_or-replicate, get_or-set_same, get_or-set_other, merged, State}
use Rattle.wcp_model.proofs.Words.{Send, Computation, IsState, interval_at, IsMessage, DirectlyPrecedes, Next, Message}
use Rattle.wcp_model.proofs.Words.{HappenedBefore, Direct, CountsBefore, IsStateClock}
use Rattle.wcp_clock.proofs.Merging.{length-merged, slice_index-merged}
use Rattle.wcp_model.proofs.EventPlaces.{event_of_send, event_below}
use Rattle.wcp_model.proofs.Predecessors.{local_state, only_before_send, only_before_receive}
use Rattle.wcp_model.proofs.StateClocks.{own_counts}
use Rattle.wcp_model.proofs.Reached.{AtOrAfter, one_more_step, before_to_state}

-- the first state of a process has a clock of zeros
pub clock_at_first : (n : ℕ) (c : Computation) (p : ℕ) → p < n → IsStateClock n c (local_state p 0) (replicate n 0)
clock_at_first n c p in_range = grind (arith, get_or-replicate, length-replicate)

-- of its own process too, a clock counts the states that happened before
pub clock_counts : (n : ℕ) (c : Computation) (s : State) (clock : List ℕ) (q : ℕ) → IsState c s
    → IsStateClock n c s clock → q < n → CountsBefore c s q (slice_index clock q)
clock_counts n c s clock q exists is in_range = grind (arith, cases_eq q s.process, own_counts c s exists)

-- what the state behind a send counts is the sender's state and what happened before it
pub sender_counts : (n : ℕ) (c : Computation) (p k to place : ℕ) (clock : List ℕ) (q l : ℕ) → slice_get c place ≡ Some
    (Send p to) → interval_at c p place ≡ k → IsStateClock n c (local_state p (k + 1)) clock → q < n →
    AtOrAfter c (local_state q l) (local_state p k) ↔ (l < slice_index clock q)
sender_counts n c p k to place clock q l at number is in_range =
    let exists : IsState c (local_state p (k + 1)) =
    omega (arith, event_below c p k place (event_of_send c p k to place at number)) in
    let counts : CountsBefore c (local_state p (k + 1)) q (slice_index clock q) =
    clock_counts n c (local_state p (k + 1)) clock q exists is in_range in (
      λ h. (counts l).0 (one_more_step c (local_state q l) (local_state p k) (local_state p (k + 1)) h (Next refl refl
          exists)),
      λ below. only_before_send c (local_state q l) p k to place at number ((counts l).1 below),
    )

-- a component that was set to one more
ticked : (n : ℕ) (c : Computation) (p k : ℕ) (old clock : List ℕ) → p < n → length clock ≡ n → slice_index old p ≡ k →
    ((q : ℕ) → q < n → q ≢ p → CountsBefore c (local_state p (k + 1)) q (slice_index clock q))
    → IsStateClock n c (local_state p (k + 1)) (slice_set clock p (slice_index old p + 1))
ticked n c p k old clock in_range components own others = grind (arith, get_or-set_other, get_or-set_same, length-set)

-- at a send the clock ticks
pub clock_after_send : (n : ℕ) (c : Computation) (p k to place : ℕ) (clock : List ℕ) → p < n
    → slice_get c place ≡ Some (Send p to) → interval_at c p place ≡ k → IsStateClock n c (local_state p k) clock →
    IsStateClock n c (local_state p (k + 1)) (slice_set clock p (slice_index clock p + 1))
clock_after_send n c p k to place clock in_range at number is =
    let exists : IsState c (local_state p (k + 1)) =
    omega (arith, event_below c p k place (event_of_send c p k to place at number)) in
    let only = λ (q l : ℕ). only_before_send c (local_state q l) p k to place at number in
    ticked n c p k clock clock in_range is.components is.own
    (λ q q_in_range other l. grind (arith, only q l, is.others q q_in_range other l, one_more_step))

-- a state of another process that happened before the state behind a receive is counted by the clock or by the stamp
receive_counts : (n : ℕ) (c : Computation) (r : State) (p k : ℕ) (clock stamp : List ℕ) (q l : ℕ)
    → IsMessage c r (local_state p (k + 1)) → IsStateClock n c (local_state p k) clock →
    IsStateClock n c (local_state r.process (r.interval + 1)) stamp → q < n → q ≢ p → HappenedBefore c (local_state q l)
    (local_state p (k + 1)) ↔ (l < max (slice_index clock q) (slice_index stamp q))
receive_counts n c r p k clock stamp q l m is sent in_range other =
    let link : DirectlyPrecedes c r (local_state p (k + 1)) = Message m in
    let own : HappenedBefore c (local_state q l) (local_state p k) ↔ (l < slice_index clock q) =
    is.others q in_range other l in
    let theirs : AtOrAfter c (local_state q l) r ↔ (l < slice_index stamp q) =
    sender_counts n c r.process r.interval m.to m.sent stamp q l m.send m.from_state sent in_range in (
      grind (arith, only_before_receive),
      search (arith, before_to_state (Direct link), one_more_step),
    )

-- at a receive the clock takes the greater of each other component, and ticks
pub clock_after_receive : (n : ℕ) (c : Computation) (r : State) (p k : ℕ) (clock stamp : List ℕ) → p < n
    → IsMessage c r (local_state p (k + 1)) → IsStateClock n c (local_state p k) clock →
    IsStateClock n c (local_state r.process (r.interval + 1)) stamp
    → IsStateClock n c (local_state p (k + 1)) (slice_set (merged clock stamp) p (slice_index clock p + 1))
clock_after_receive n c r p k clock stamp in_range m is sent =
    let lengths : length clock ≡ length stamp = is.components ∙ sym sent.components in
    ticked n c p k clock (merged clock stamp) in_range (length-merged clock stamp lengths ∙ is.components) is.own
    (λ q q_in_range other.
    subst (CountsBefore c (local_state p (k + 1)) q) (sym (slice_index-merged clock stamp q lengths))
    (λ l. receive_counts n c r p k clock stamp q l m is sent q_in_range other))
