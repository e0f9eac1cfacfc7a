use Rattle.wcp_model.proofs.Words.{◌≡◌, ℕ, ◌+◌, ◌<◌, ◌≤◌, true, slice_get, Some, refl, arith, eq-eqb, Step, Send}
use Rattle.wcp_model.proofs.Words.{Computation, is_communication_of, is_send, communications, interval_at, message_at}
use Rattle.wcp_model.proofs.Places.{count_before-mono, count_before-place}
use Rattle.wcp_model.proofs.SamePlace.{element_after}
use Rattle.wcp_model.proofs.Reached.{interval_at-event, interval_at-le}

-- communication event k of a process stands at a place
pub record IsEventOf (c : Computation) (p k place : ℕ) : Type 0 where
  pub step : Step
  pub at : slice_get c place ≡ Some step
  pub own : is_communication_of p step ≡ true
  pub number : interval_at c p place ≡ k

-- a send is an event of the sender
pub event_of_send : (c : Computation) (p k to place : ℕ) → slice_get c place ≡ Some (Send p to)
    → interval_at c p place ≡ k → IsEventOf c p k place
event_of_send c p k to place at number = record { step = Send p to; at = at; own = eq-eqb p p refl; number = number }

-- the events of a process stand in order
pub events_in_order : (c : Computation) (p k l a b : ℕ) → IsEventOf c p k a → IsEventOf c p l b → a ≤ b → k ≤ l
events_in_order c p k l a b at_a at_b le =
    omega (arith, at_a.number, at_b.number, count_before-mono (is_communication_of p) c a b le)

-- a later event stands at a later place
pub later_event : (c : Computation) (p k l a b : ℕ) → IsEventOf c p k a → IsEventOf c p l b → k < l → a < b
later_event c p k l a b at_a at_b lt = grind (arith, events_in_order c p l k b a at_b at_a)

-- each number below the number of a process's events is that of one
pub event_of : (c : Computation) (p k : ℕ) → k < communications c p → (place : ℕ) × IsEventOf c p k place
event_of c p k below = grind (arith, element_after (is_communication_of p) c k below)

-- the number of an event is below the number of the process's events
pub event_below : (c : Computation) (p k place : ℕ) → IsEventOf c p k place → k < communications c p
event_below c p k place event =
    grind (arith, interval_at-le c p (place + 1), interval_at-event c p place event.step event.at event.own)

-- a message has one send
pub sent_once : (c : Computation) (a b p q to to' : ℕ) → slice_get c a ≡ Some (Send p to)
    → slice_get c b ≡ Some (Send q to') → message_at c a ≡ message_at c b → a ≡ b
sent_once c a b p q to to' at_a at_b same =
    count_before-place is_send c a b (Send p to) (Send q to') at_a at_b refl refl same
