use Rattle.wcp_model.proofs.Words.{◌≡◌, ◌==◌, true, ℕ, zero, suc, ◌+◌, ◌<◌, ◌≤◌, ◌⊎◌, slice_get, Some, refl, ◌∙◌, subst}
use Rattle.wcp_model.proofs.Words.{⊎_elim, add-one, arith, cases_lt, eq-eqb, State, Send, Recv, Computation, IsState}
use Rattle.wcp_model.proofs.Words.{communications, interval_at, message_at, IsMessage, DirectlyPrecedes, Next, Message}
use Rattle.wcp_model.proofs.Words.{HappenedBefore, Direct, Chain}
use Rattle.wcp_model.proofs.Reached.{AtOrAfter, Carries, state_at, same_state, one_more_step, comes_from}
use Rattle.wcp_model.proofs.Reached.{interval_at-event}
use Rattle.wcp_model.proofs.EventPlaces.{IsEventOf, events_in_order, later_event, event_of, event_below, sent_once}

-- the state of a process in an interval
abbrev pub local_state : ℕ → ℕ → State
local_state p k = record { process = p; interval = k }

-- happened-before is transitive
pub before_trans : (c : Computation) (s t : State) {u : State} → HappenedBefore c s t → HappenedBefore c t u
    → HappenedBefore c s u
before_trans c s t h (Direct d) = Chain h d
before_trans c s t h (Chain g d) = Chain (before_trans c s t h g) d

-- the events by which one state ends and another, that it happened before, begins
pub record Span (c : Computation) (s t : State) : Type 0 where
  pub ended : ℕ
  pub began : ℕ
  pub last : ℕ
  pub ends : IsEventOf c s.process s.interval ended
  pub begins : IsEventOf c t.process last began
  pub next : last + 1 ≡ t.interval
  pub in_order : ended ≤ began

-- to the next state of the process by one event, and by a message from its send to its receive
direct_span : (c : Computation) (s t : State) → DirectlyPrecedes c s t → Span c s t
direct_span c s t (Next process interval exists) =
    let event = event_of c s.process s.interval (grind arith) in
    record {
      ended = event.0;
      began = event.0;
      last = s.interval;
      ends = event.1;
      begins = subst (λ p. IsEventOf c p s.interval event.0) process event.1;
      next = interval;
      in_order = omega arith;
    }
direct_span c s t (Message m) = grind arith

-- spans join, since a process's state begins before it ends
join_spans : (c : Computation) (s t u : State) → Span c s t → Span c t u → Span c s u
join_spans c s t u a b =
    grind (arith, later_event c t.process a.last t.interval a.began b.ended a.begins b.ends (omega (arith, a.next)))

-- what happened before ended before or where the other began
pub span : (c : Computation) (s : State) {t : State} → HappenedBefore c s t → Span c s t
span c s {t = t} (Direct d) = direct_span c s t d
span c s {t = u} (Chain {t = t} h d) = join_spans c s t u (span c s h) (direct_span c t u d)

-- of two states of a process the one that happened before is the earlier
pub before_rises : (c : Computation) (p k l : ℕ) → HappenedBefore c (local_state p k) (local_state p l) → k < l
before_rises c p k l h =
    let found : Span c (local_state p k) (local_state p l) = span c (local_state p k) h in
    omega (
      arith,
      found.next,
      events_in_order c p k found.last found.ended found.began found.ends found.begins found.in_order,
    )

-- a state that happened before another has ended
pub before_from_state : (c : Computation) (s : State) {t : State} → HappenedBefore c s t
    → s.interval < communications c s.process
before_from_state c s {t = t} h = let found : Span c s t = span c s h in
    event_below c s.process s.interval found.ended found.ends

-- a state happened before each later one of its process
pub before_later : (c : Computation) (p k l : ℕ) → k < l → IsState c (local_state p l)
    → HappenedBefore c (local_state p k) (local_state p l)
before_later c p k zero below exists = absurd (omega arith)
before_later c p k (suc l) below exists = one_more_step c (local_state p k) (local_state p l) (local_state p (suc l))
    (grind (arith, before_later c p k l)) (Next refl (add-one l) exists)

-- where a state of a process happened before, so did each earlier one
pub earlier_before : (c : Computation) (q k l : ℕ) {t : State} → k ≤ l → HappenedBefore c (local_state q l) t
    → HappenedBefore c (local_state q k) t
earlier_before c q k l {t = t} le h =
    ⊎_elim (λ (lt : k < l). before_trans c (local_state q k) (local_state q l)
    (before_later c q k l lt (omega (arith, before_from_state c (local_state q l) h))) h)
    (λ (ge : l ≤ k). subst (λ (j : ℕ). HappenedBefore c (local_state q j) t) (omega arith) h)
    (cases_lt k l)

-- only the state before it, and what happened before that, happened before a state that a send begins
pub only_before_send : (c : Computation) (s : State) (p k to place : ℕ) → slice_get c place ≡ Some (Send p to)
    → interval_at c p place ≡ k → HappenedBefore c s (local_state p (k + 1)) →
    AtOrAfter c s (local_state p k)
only_before_send c s p k to place at number h = grind (
  arith,
  comes_from c s p place (Send p to) at (eq-eqb p p refl),
  interval_at-event c p place (Send p to) at (eq-eqb p p refl),
)

-- only the state before it and the sender's, and what happened before these, happened before a state that a receive
-- begins
pub only_before_receive : (c : Computation) (s r : State) (p k : ℕ) → IsMessage c r (local_state p (k + 1))
    → HappenedBefore c s (local_state p (k + 1)) →
    AtOrAfter c s (local_state p k) ⊎ AtOrAfter c s r
only_before_receive c s r p k m h = grind (
  arith,
  by_sender,
  comes_from c s p m.received (Recv p
      (message_at c m.sent)) m.receive own,
  interval_at-event c p m.received (Recv p (message_at c m.sent)) m.receive own,
)
  where
    own : (p == p) ≡ true
    own = eq-eqb p p refl

    by_sender : (message : ℕ) → Recv p (message_at c m.sent) ≡ Recv p message → Carries c s m.received message
        → AtOrAfter c s r
    by_sender message takes carries =
        let send = carries.2.send in
        let same : carries.0 ≡ m.sent = sent_once c carries.0 m.sent carries.2.process r.process carries.2.to m.to send
        m.send (carries.2.number ∙ cc) in
        subst (AtOrAfter c s) (same_state (state_at c carries.2.process carries.0) r (cc) (cc)) carries.2.reached
