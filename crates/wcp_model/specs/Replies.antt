use Rattle.std.specs.Prelude.{◌≡◌, ◌==◌, ◌||◌, ℕ, ◌<◌, Bool, true, false, not, nat_lt, nat_le, Option, Some, None}
use Rattle.std.specs.Prelude.{MatchOption, List, [], ◌∷◌, ◌++◌, filter, flat_map, take, slice_get, if◌then◌else◌}
use Rattle.std.specs.List.{list_any}
use Rattle.std.specs.Option.{option_map_or}
use Rattle.wcp_clock.specs.Limits.{most_events}
use Rattle.wcp_clock.specs.Notes.{is_lost}
use Rattle.wcp_clock.specs.declared.note.Item.{Item}
use Rattle.wcp_clock.specs.declared.note.Note.{Note}
use Rattle.wcp_model.specs.declared.plan.Parent.TheVariants as parent
use Rattle.wcp_model.specs.declared.plan.Plan.{Plan}
use Rattle.wcp_model.specs.declared.step.Step.{Step}
use Rattle.wcp_model.specs.declared.step.Step.TheVariants as step
use Rattle.wcp_model.specs.declared.step.Reply.{Reply}
use Rattle.wcp_model.specs.declared.step.Reply.TheVariants as reply
use Rattle.wcp_model.specs.declared.step.Why.{Why}
use Rattle.wcp_model.specs.declared.step.Why.TheVariants as why
use Rattle.wcp_model.specs.Computation.{Computation, communications}
use Rattle.wcp_model.specs.Emission.{AreEmissions, has_ended}
use Rattle.wcp_model.specs.FirstReason.{first_reason}
use Rattle.wcp_model.specs.Tree.{is_relay, is_leaf, is_attached}
use Rattle.wcp_model.specs.Occupancy.{Place, Pending, InboxOf, source, target, taken_from, notes_in, room_of, IsEntry}

-- A step with what it was answered; a history is the list of these, in order.
pub record Answered : Type 0 where
  pub step : Step
  pub reply : Reply

-- The steps that a reply accepts, and the items of a process that it gives to the checker: the mark of a lost process
-- is not among what was taken.
abbrev pub accepted_by : Step → Reply → List Step
accepted_by s reply.Done = s ∷ []
accepted_by s (reply.Took item) = s ∷ []
accepted_by s (reply.Refused why) = []

abbrev pub taken_by : Reply → List Item
taken_by reply.Done = []
taken_by (reply.Took item) = if is_lost item.note then [] else item ∷ []
taken_by (reply.Refused why) = []

-- The accepted steps of a history, in order, and the items that the checker took.
abbrev pub accepted : List Answered → List Step
accepted history = flat_map (λ a. accepted_by a.step a.reply) history

abbrev pub items_taken : List Answered → List Item
items_taken history = flat_map (λ a. taken_by a.reply) history

abbrev pub is_event : Step → Bool
is_event (step.Observe p holds) = true
is_event (step.Send p to) = true
is_event (step.Recv p message) = true
is_event (step.Close p) = true
is_event (step.Dropped p) = true
is_event _ = false

-- The computation of accepted steps: the observe, send, receive, close and drop steps among them.
abbrev pub computation : List Step → Computation
computation steps = filter is_event steps

-- To whom each message was sent, by number.
abbrev pub receivers : Computation → List ℕ
receivers c = flat_map receiver c
  where
    receiver : Step → List ℕ
    receiver (step.Send p to) = to ∷ []
    receiver _ = []

abbrev pub was_sent_to : Computation → ℕ → ℕ → Bool
was_sent_to c message p = is_receiver (slice_get (receivers c) message)
  where
    is_receiver : Option ℕ → Bool
    is_receiver (Some to) = to == p
    is_receiver None = false

abbrev pub is_receive_of : ℕ → Step → Bool
is_receive_of message (step.Recv p m) = m == message
is_receive_of message _ = false

abbrev pub was_received : Computation → ℕ → Bool
was_received c message = list_any (is_receive_of message) c

-- Why an event may be refused, after a computation of n processes of which some have a pending note: each reason with
-- its test, in the order in which they count.
abbrev pub event_reasons : ℕ → Computation → (ℕ → Bool) → Step → List (Bool × Why)
event_reasons n c pending (step.Observe p holds) = (not (nat_lt p n), why.NoSuch) ∷ (has_ended c p, why.Closed) ∷ []
event_reasons n c pending (step.Send p to) =
    (not (nat_lt p n) || not (nat_lt to n) || p == to, why.NoSuch) ∷ (has_ended c p, why.Closed)
    ∷ (pending p, why.Backlog) ∷ (nat_le most_events (communications c p), why.ClockEnd) ∷ []
event_reasons n c pending (step.Recv p message) =
    (not (nat_lt p n) || not (was_sent_to c message p), why.NoSuch) ∷ (has_ended c p, why.Closed)
    ∷ (pending p, why.Backlog) ∷ (was_received c message, why.Gone)
    ∷ (nat_le most_events (communications c p), why.ClockEnd) ∷ []
event_reasons n c pending (step.Close p) =
    (not (nat_lt p n), why.NoSuch) ∷ (has_ended c p, why.Closed) ∷ (pending p, why.Backlog) ∷ []
event_reasons n c pending (step.Dropped p) = (not (nat_lt p n), why.NoSuch) ∷ (has_ended c p, why.Closed) ∷ []
event_reasons n c pending s = []

-- A move that names a process, relay or attachment that there isn't. In a checked plan, what is attached exists.
abbrev pub names_nothing : Plan → Step → Bool
names_nothing plan (step.Put p) = not (nat_lt p plan.n)
names_nothing plan (step.Admit relay p) = not (is_attached plan relay p)
names_nothing plan (step.Pull relay) = not (is_relay plan relay) || is_leaf plan relay
names_nothing plan (step.Pass relay) = not (is_relay plan relay)
names_nothing plan s = false

-- Why a move may be refused, where there are so many notes in each place.
abbrev pub move_reasons : Plan → (Place → ℕ) → Step → List (Bool × Why)
move_reasons plan notes s =
    (names_nothing plan s, why.NoSuch) ∷ (option_map_or (λ from. notes from == 0) (source s) false, why.Empty)
    ∷ (option_map_or (λ to. nat_le (room_of plan to) (notes to)) (target plan s) false, why.Full) ∷ []

-- Why a step may be refused, after these accepted steps and where these are the emissions of each process.
abbrev pub reasons : Plan → (ℕ → List Note) → List Step → Step → List (Bool × Why)
reasons plan emissions steps s =
    event_reasons plan.n (computation steps) (λ p. nat_lt 0 (notes_in plan emissions steps (Pending p))) s
    ++ move_reasons plan (notes_in plan emissions steps) s

-- An accepted step is answered that it was done; an accepted check takes the item whose turn it is in the root inbox.
abbrev pub IsAcceptance : Plan → (ℕ → List Note) → List Step → Step → Reply → Type 0
IsAcceptance plan emissions steps step.Check answer =
    (item : Item) × (answer ≡ reply.Took item)
    × IsEntry plan emissions steps (InboxOf parent.Root) (taken_from steps (InboxOf parent.Root)) item
IsAcceptance plan emissions steps s answer = answer ≡ reply.Done

-- The reply to a step after these accepted steps: the first reason that holds, else acceptance.
pub record IsReply (plan : Plan) (steps : List Step) (s : Step) (answer : Reply) : Type 0 where
  pub emissions : ℕ → List Note
  pub are : (p : ℕ) → p < plan.n → AreEmissions plan.n plan.watched plan.flag (computation steps) p (emissions p)
  pub first : MatchOption (first_reason (reasons plan emissions steps s))
      (IsAcceptance plan emissions steps s answer) (λ why. answer ≡ reply.Refused why)

-- Each step of a history has the reply that the earlier steps and replies lead to.
abbrev pub AreReplies : Plan → List Answered → Type 0
AreReplies plan history =
    (place : ℕ) (a : Answered) → slice_get history place ≡ Some a →
    IsReply plan (accepted (take place history)) a.step a.reply
