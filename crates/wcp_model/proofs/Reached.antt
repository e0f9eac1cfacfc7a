use Rattle.wcp_model.proofs.Words.{NumberSet, Intervals, NamesWatched, IsWatched, None, is_some, slice_index_or, ◌≡◌}
use Rattle.wcp_model.proofs.Words.{◌≢◌, ℕ, zero, suc, ◌+◌, ◌<◌, ◌≤◌, ◌⊎◌, true, false, length, count_by, slice_get}
use Rattle.wcp_model.proofs.Words.{Some, refl, sym, ◌∙◌, ap, subst, inl, inr, ⊎_elim, arith, cases_lt, cases_eq}
use Rattle.wcp_model.proofs.Words.{cases_Bool, cases_order, eq-eqb, take_all, sum_by-take-le, slice_get_within}
use Rattle.wcp_model.proofs.Words.{slice_get_cases, State, Step, Observe, Send, Recv, Computation, is_communication_of}
use Rattle.wcp_model.proofs.Words.{communications, interval_at, message_at, IsState, IsTrueState, DirectlyPrecedes}
use Rattle.wcp_model.proofs.Words.{Next, Message, HappenedBefore, Direct, Chain, member, IsConsistent, IsSatisfyingCut}
use Rattle.std.specs.FinSet as set
use Rattle.wcp_model.proofs.WatchedProcesses.{all_watched_decided}
use Rattle.wcp_model.proofs.Decided.{Decided, decided_from, some_below_decided, all_below_decided, agree_decided}
use Rattle.wcp_model.proofs.Places.{count_before-yes, count_before-no, count_before-past, count_before-place}
use Rattle.wcp_model.proofs.SamePlace.{element_after}

-- states of one process in one interval are one state
pub same_state : (s t : State) → s.process ≡ t.process → s.interval ≡ t.interval → s ≡ t
same_state s t process interval = λ i. record { process = process i; interval = interval i }

-- the state that a process is in at a place
abbrev pub state_at : Computation → ℕ → ℕ → State
state_at c p place = record { process = p; interval = interval_at c p place }

-- one state is another, or happened before it
abbrev pub AtOrAfter : Computation → State → State → Type 0
AtOrAfter c s t = (s ≡ t) ⊎ HappenedBefore c s t

-- a process's own communication event ends its interval
pub interval_at-event : (c : Computation) (p place : ℕ) (step : Step) → slice_get c place ≡ Some step
    → is_communication_of p step ≡ true → interval_at c p (place + 1) ≡ interval_at c p place + 1
interval_at-event c p = count_before-yes (is_communication_of p) c

-- any other step leaves it in its interval
pub interval_at-other : (c : Computation) (p place : ℕ) (step : Step) → slice_get c place ≡ Some step
    → is_communication_of p step ≡ false → interval_at c p (place + 1) ≡ interval_at c p place
interval_at-other c p = count_before-no (is_communication_of p) c

-- the interval of a process is at most its last
pub interval_at-le : (c : Computation) (p place : ℕ) → interval_at c p place ≤ communications c p
interval_at-le c p place = sum_by-take-le _ c place

-- at the end each process is in its last interval
pub interval_at-end : (c : Computation) (p : ℕ) → interval_at c p (length c) ≡ communications c p
interval_at-end c p = ap (count_by (is_communication_of p)) (take_all (length c) c (omega arith))

-- a true state exists
pub true_state_exists : (c : Computation) (s : State) → IsTrueState c s → IsState c s
true_state_exists c s is = omega (arith, is.within, interval_at-le c s.process is.place)

-- the last step of a chain
pub last_step : {c : Computation} {s t : State} → HappenedBefore c s t
    → (u : State) × AtOrAfter c s u × DirectlyPrecedes c u t
last_step {s = s} (Direct step) = (s, inl refl, step)
last_step (Chain {t = u} chain step) = (u, inr chain, step)

-- a chain with one more step
pub one_more_step : (c : Computation) (s u t : State) → AtOrAfter c s u → DirectlyPrecedes c u t → HappenedBefore c s t
one_more_step c s u t from step =
    ⊎_elim (λ (same : s ≡ u). Direct (subst (λ v. DirectlyPrecedes c v t) (sym same) step))
    (λ (chain : HappenedBefore c s u). Chain chain step) from

-- what a direct precedence leads to is a state
directly_to_state : {c : Computation} {s t : State} → DirectlyPrecedes c s t → IsState c t
directly_to_state (Next same next is) = is
directly_to_state {c = c} {t = t} (Message m) = omega (
  arith,
  m.to_state,
  interval_at-le c t.process (m.received + 1),
  interval_at-event c t.process m.received _ m.receive (eq-eqb t.process t.process refl),
)

-- what a state happened before is a state
pub before_to_state : {c : Computation} {s t : State} → HappenedBefore c s t → IsState c t
before_to_state before = directly_to_state (last_step before).2

-- what a state happened before is no first state
pub before_to_later : {c : Computation} {s t : State} → HappenedBefore c s t → 0 < t.interval
before_to_later before = grind (arith, last_step before)

-- the message was sent at this place, from the state or from one that it happened before
pub record IsSentAfter (c : Computation) (s : State) (message sent : ℕ) : Type 0 where
  pub process : ℕ
  pub to : ℕ
  pub send : slice_get c sent ≡ Some (Send process to)
  pub number : message_at c sent ≡ message
  pub reached : AtOrAfter c s (state_at c process sent)

-- the message was so sent at a place before this one
abbrev pub Carries : Computation → State → ℕ → ℕ → Type 0
Carries c s place message = (sent : ℕ) × (sent < place) × IsSentAfter c s message sent

-- what a state is or happened before, it happened before at the next state of that process
pub before_next : (c : Computation) (s : State) (p place : ℕ) (step : Step) → slice_get c place ≡ Some step
    → is_communication_of p step ≡ true → AtOrAfter c s (state_at c p place)
    → HappenedBefore c s (state_at c p (place + 1))
before_next c s p place step here own from =
    one_more_step c s (state_at c p place) (state_at c p (place + 1)) from
    (Next refl (sym (interval_at-event c p place step here own)) (interval_at-le c p (place + 1)))

-- a receive begins a state after those that the message was sent after
pub before_receive : (c : Computation) (s : State) (p place message : ℕ) → slice_get c place ≡ Some (Recv p message)
    → Carries c s place message → HappenedBefore c s (state_at c p (place + 1))
before_receive c s p place message here carries =
    let sent = carries.0 in
    let from = carries.2 in
    one_more_step c s (state_at c from.process sent) (state_at c p (place + 1)) from.reached
    (grind (arith, interval_at-event c p place (Recv p message) here (eq-eqb p p refl)))

-- a state that begins at a place comes from the process's state before it, or by the message that is received there
abbrev pub ComesFrom : Computation → State → ℕ → ℕ → Step → Type 0
ComesFrom c s p place step =
    AtOrAfter c s (state_at c p place) ⊎ ((message : ℕ) × (step ≡ Recv p message) × Carries c s place message)

directly_from : (c : Computation) (s u : State) (p place : ℕ) (step : Step) → slice_get c place ≡ Some step
    → is_communication_of p step ≡ true → AtOrAfter c s u → DirectlyPrecedes c u (state_at c p (place + 1))
    → ComesFrom c s p place step
directly_from c s u p place step here own from last = grind (arith, count_before-place, interval_at-event)

pub comes_from : (c : Computation) (s : State) (p place : ℕ) (step : Step) → slice_get c place ≡ Some step
    → is_communication_of p step ≡ true → HappenedBefore c s (state_at c p (place + 1)) → ComesFrom c s p place step
comes_from c s p place step here own before =
    let last = last_step before in
    directly_from c s last.0 p place step here own last.1 last.2

-- whether two states are one is decided
pub same_state_decided : (s t : State) → Decided (s ≡ t)
same_state_decided s t = grind arith

sent_after_at : (c : Computation) (s : State) (message sent : ℕ) (step : Step) → slice_get c sent ≡ Some step
    → ((p : ℕ) → Decided (HappenedBefore c s (state_at c p sent))) → Decided (IsSentAfter c s message sent)
sent_after_at c s message sent (Send p to) here before =
    decided_from (λ (both : (message_at c sent ≡ message) × AtOrAfter c s (state_at c p sent)). record {
      process = p;
      to = to;
      send = here;
      number = both.0;
      reached = both.1;
    })
    (λ (after : IsSentAfter c s message sent).
    let send = after.send in
    let process : after.process ≡ p = cc in
    (after.number, subst (λ q. AtOrAfter c s (state_at c q sent)) process after.reached))
    (grind (arith, cases_eq (message_at c sent) message, same_state_decided s (state_at c p sent), before p))
sent_after_at c s message sent _ here before = grind arith

-- whether a message was sent after a state is decided, where the order is at the place of sending
pub sent_after_decided : (c : Computation) (s : State) (message sent : ℕ)
    → ((p : ℕ) → Decided (HappenedBefore c s (state_at c p sent))) → Decided (IsSentAfter c s message sent)
sent_after_decided c s message sent before = search (arith, slice_get_cases c sent, sent_after_at)

message_decided : (c : Computation) (s : State) (p place : ℕ) (step : Step) → is_communication_of p step ≡ true
    → ((message : ℕ) → Decided (Carries c s place message))
    → Decided ((message : ℕ) × (step ≡ Recv p message) × Carries c s place message)
message_decided c s p place (Recv q message) own carries = grind (arith, carries message)
message_decided c s p place step own carries = inr (λ by. let same = by.1 in cc)

next_decided : (c : Computation) (s : State) (p place : ℕ) (step : Step) → slice_get c place ≡ Some step
    → is_communication_of p step ≡ true → ((message : ℕ) → Decided (Carries c s place message))
    → Decided (HappenedBefore c s (state_at c p place)) → Decided (HappenedBefore c s (state_at c p (place + 1)))
next_decided c s p place step here own carries before =
    decided_from (⊎_elim (before_next c s p place step here own)
    (λ by. before_receive c s p place by.0 (here ∙ ap Some by.1) by.2)) (comes_from c s p place step here own)
    (grind (arith, same_state_decided s (state_at c p place), before, message_decided c s p place step own carries))

-- the order at a place, once it is decided at the place itself and before it
at_next_decided : (c : Computation) (s : State) (place : ℕ) → ((earlier : ℕ) → earlier ≤ place → (p : ℕ) → Decided
    (HappenedBefore c s (state_at c p earlier))) → (p : ℕ) → Decided (HappenedBefore c s (state_at c p (place + 1)))
at_next_decided c s place decided p = elim (slice_get_cases c place).1 [
  | inl here ↦ elim (cases_Bool (is_communication_of p here.0)) [
    | inl own ↦
        next_decided c s p place here.0 here.2 own
        (λ message. some_below_decided (λ sent. IsSentAfter c s message sent) place
        (λ sent below. sent_after_decided c s message sent (decided sent (omega arith))))
        (decided place (omega arith) p)
    | inr other ↦ rw (interval_at-other c p place here.0 here.2 other) (decided place (omega arith) p)
  ]
  | inr past ↦ rw (count_before-past (is_communication_of p) c place past.0) (decided place (omega arith) p)
]

by_place_decided : (c : Computation) (s : State) (place earlier : ℕ) → earlier ≤ place → (p : ℕ)
    → Decided (HappenedBefore c s (state_at c p earlier))
by_place_decided c s zero earlier low p = grind (arith, before_to_later)
by_place_decided c s (suc place) earlier low p = elim (cases_lt earlier (suc place)) [
  | inl below ↦ by_place_decided c s place earlier (omega arith) p
  | inr above ↦ let last : earlier ≡ place + 1 = omega arith in
      rw last (at_next_decided c s place (by_place_decided c s place) p)
]

-- whether one state happened before another is decided
pub happened_before_decided : (c : Computation) (s t : State) → Decided (HappenedBefore c s t)
happened_before_decided c s t = elim (cases_order t.interval (communications c t.process)) [
  | inl last ↦ at_place (length c) (interval_at-end c t.process ∙ sym last)
  | inr (inl below) ↦ let there = (element_after (is_communication_of t.process) c t.interval below).1 in
      at_place there.place there.behind
  | inr (inr above) ↦ inr (λ before. let is = before_to_state before in omega arith)
]
  where
    at_place : (place : ℕ) → interval_at c t.process place ≡ t.interval → Decided (HappenedBefore c s t)
    at_place place here = subst (λ u. Decided (HappenedBefore c s u))
        (same_state (state_at c t.process place) t refl here) (by_place_decided c s place place (omega arith) t.process)

-- an observation at a place that makes a state true
abbrev pub IsTrueAt : Computation → State → ℕ → Type 0
IsTrueAt c s place = (slice_get c place ≡ Some (Observe s.process true)) × (interval_at c s.process place ≡ s.interval)

true_at_decided : (c : Computation) (s : State) (place : ℕ) → Decided (IsTrueAt c s place)
true_at_decided c s place = grind arith

-- whether a state is true is decided
pub true_state_decided : (c : Computation) (s : State) → Decided (IsTrueState c s)
true_state_decided c s = grind (
  arith,
  slice_get_within,
  some_below_decided (λ place. IsTrueAt c s place) (length c) (λ place below. true_at_decided c s place),
)

-- whether a cut is consistent is decided
pub consistent_decided : (n : ℕ) (watched : NumberSet) (c : Computation) (cut : Intervals)
    → Decided (IsConsistent n watched c cut)
consistent_decided n watched c cut =
    decided_from (λ apart p q p_is q_is. apart p p_is q q_is) (λ consistent p p_is q q_is. consistent p q p_is q_is)
    (all_watched_decided n watched
    (λ p. (q : ℕ) → IsWatched n watched q → p ≢ q → HappenedBefore c (member cut p) (member cut q) → ⊥)
    (λ p p_is. all_watched_decided n watched
    (λ q. p ≢ q → HappenedBefore c (member cut p) (member cut q) → ⊥)
    (λ q q_is. grind (arith, happened_before_decided c (member cut p) (member cut q)))))

-- whether a list of intervals names the watched processes is decided
pub named_decided : (n : ℕ) (watched : NumberSet) (cut : Intervals) → Decided (NamesWatched n watched cut)
named_decided n watched cut = grind (
  arith,
  cases_eq (length cut) n,
  all_below_decided (λ p. is_some (slice_index_or cut p None) ≡ set.contains watched p) n
      (λ p below. agree_decided (is_some (slice_index_or cut p None)) (set.contains watched p)),
)

-- whether it is a satisfying cut is decided
pub satisfying_decided : (n : ℕ) (watched : NumberSet) (c : Computation) (cut : Intervals)
    → Decided (IsSatisfyingCut n watched c cut)
satisfying_decided n watched c cut = grind (
  arith,
  named_decided n watched cut,
  consistent_decided n watched c cut,
  all_watched_decided n watched (λ p. IsTrueState c (member cut p)) (λ p is. true_state_decided c (member cut p)),
)
