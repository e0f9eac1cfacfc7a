use Rattle.std.specs.Prelude.{◌≡◌, ◌≢◌, ◌==◌, ℕ, ◌+◌, ◌<◌, ◌≤◌, Bool, true, false, if◌then◌else◌, Option, Some}
use Rattle.std.specs.Prelude.{MatchOption, List, [], ◌∷◌, ◌++◌, length, count_by, slice_get, slice_set, slice_index_or}
use Rattle.wcp_clock.specs.declared.note.Item.{Item}
use Rattle.wcp_clock.specs.declared.note.Note.{Note}
use Rattle.wcp_clock.specs.declared.note.Note.TheVariants as note
use Rattle.wcp_model.specs.declared.plan.Parent.TheVariants.{Root, Relay}
use Rattle.wcp_model.specs.declared.plan.Plan.{Plan}
use Rattle.wcp_model.specs.declared.step.Step.{Step}
use Rattle.wcp_model.specs.declared.step.Step.TheVariants as step
use Rattle.wcp_model.specs.declared.step.Reply.{Reply}
use Rattle.wcp_model.specs.declared.step.Reply.TheVariants.{Done, Refused}
use Rattle.wcp_model.specs.declared.step.Why.{Why}
use Rattle.wcp_model.specs.declared.step.Why.TheVariants.{Empty, Full}
use Rattle.wcp_model.specs.Emission.{is_dropped}
use Rattle.wcp_model.specs.PlanFault.{IsCheckedPlan}
use Rattle.wcp_model.specs.PlainPlan.{IsSamePlan}
use Rattle.wcp_model.specs.Occupancy.{Place, Pending, Link, HoldOf, InboxOf, next_place, source, puts_into, taken_from}
use Rattle.wcp_model.specs.Occupancy.{notes_in, room_of, IsEntry}
use Rattle.wcp_model.specs.Replies.{accepted_by, names_nothing, reasons}
use Rattle.wcp_model.specs.Report.{notes_taken}
use Rattle.wcp_hold.specs.Held.{Held}
use Rattle.wcp_world.specs.Answer.{IsAnswer}
use Rattle.wcp_world.specs.PutNotes.{put_more}

-- What a transport has: its plan, and the links, holds and inboxes.
pub record TransportState : Type 0 where
  pub plan : Plan
  pub places : List Held

-- The number of a place among the places: first the links, then the holds, then the root inbox and the inboxes of the
-- relays.
abbrev pub place_number : Plan → Place → ℕ
place_number plan (Pending p) = p
place_number plan (Link p) = p
place_number plan (HoldOf relay) = plan.n + relay
place_number plan (InboxOf Root) = plan.n + length plan.parents.items
place_number plan (InboxOf (Relay relay)) = plan.n + length plan.parents.items + 1 + relay

-- The places of a transport: the links of processes, and the holds and inboxes of relays, that there are.
abbrev pub IsPlaceOf : Plan → Place → Type 0
IsPlaceOf plan (Pending p) = ⊥
IsPlaceOf plan (Link p) = p < plan.n
IsPlaceOf plan (HoldOf relay) = relay < length plan.parents.items
IsPlaceOf plan (InboxOf Root) = Unit {0}
IsPlaceOf plan (InboxOf (Relay relay)) = relay < length plan.parents.items

-- What the place of this number holds; nothing, and without room, where there is no such place.
abbrev pub held_at : List Held → ℕ → Held
held_at places i = slice_index_or places i (record { items = []; room = 0 })

-- How many items a place can hold: its room, and on a link one more, the mark of a lost process.
abbrev pub size_of : Plan → Place → ℕ
size_of plan (Link p) = plan.cap + 1
size_of plan place = room_of plan place

-- How many marks of a lost process a place was given.
abbrev pub marks_in : List Step → Place → ℕ
marks_in steps (Link p) = if is_dropped steps p then 1 else 0
marks_in steps place = 0

-- What the link of a process was given: the notes put on it, and behind them the mark of a lost process.
abbrev pub given : List Step → ℕ → List Note → List Note
given steps p put = put ++ (if is_dropped steps p then note.Lost (length put) ∷ [] else [])

-- What a place holds: the entries that were not taken from it yet, in their order, within its room.
pub record IsHeldAt (plan : Plan) (steps : List Step) (put : ℕ → List Note) (place : Place) (held : Held)
    : Type 0 where
  pub room : held.room ≡ size_of plan place
  pub within : length held.items ≤ room_of plan place + marks_in steps place
  pub count : length held.items + taken_from steps place ≡ count_by (puts_into plan place) steps
  pub entries : (i : ℕ) (item : Item) → slice_get held.items i ≡ Some item →
      IsEntry plan put steps place (taken_from steps place + i) item

-- The way from a place to the checker: each place is followed by the next, and the last is the root inbox.
abbrev pub IsWay : Plan → Place → List Place → Type 0
IsWay plan place [] = place ≡ InboxOf Root
IsWay plan place (next ∷ way) = (next_place plan place ≡ Some next) × IsWay plan next way

-- What the places of a way hold of one process, from the checker outward: the last place of the way first.
abbrev pub notes_along : (Place → List Note) → List Place → List Note
notes_along notes [] = []
notes_along notes (place ∷ way) = notes_along notes way ++ notes place

-- What a place holds of one process.
abbrev pub notes_at : Plan → List Held → ℕ → Place → List Note
notes_at plan places p place = notes_taken p (held_at places (place_number plan place)).items

-- What was taken of a process, and then its notes on the way from its link, from the checker outward, are the notes
-- that its link was given.
pub record AreConveyedInOrder (plan : Plan) (places : List Held) (taken : List Item) (p : ℕ) (notes_given : List Note)
    : Type 0 where
  pub way : List Place
  pub is_way : IsWay plan (Link p) way
  pub notes : notes_taken p taken ++ notes_along (notes_at plan places p) (Link p ∷ way) ≡ notes_given

-- A transport stands for these accepted steps under a checked plan, for the notes put of each process, and for the
-- items taken.
pub record IsTransportOf (plan : Plan) (steps : List Step) (put : ℕ → List Note) (taken : List Item)
    (t : TransportState) : Type 0 where
  pub checked : IsCheckedPlan plan
  pub same_plan : IsSamePlan t.plan plan
  pub members : length t.places ≡ plan.n + length plan.parents.items + 1 + length plan.parents.items
  pub held : (place : Place) → IsPlaceOf plan place →
      IsHeldAt plan steps put place (held_at t.places (place_number plan place))
  pub as_many : (p : ℕ) → length (put p) ≡ taken_from steps (Pending p)
  pub known : (p : ℕ) → plan.n ≤ p → put p ≡ []
  pub lost_known : (p : ℕ) → is_dropped steps p ≡ true → p < plan.n
  pub in_order : (p : ℕ) → p < plan.n → AreConveyedInOrder plan t.places taken p (given steps p (put p))

-- A transport that stands for some steps.
abbrev pub IsConveying : TransportState → Type 0
IsConveying t = (plan : Plan) × (steps : List Step) × (put : ℕ → List Note) × (taken : List Item)
    × IsTransportOf plan steps put taken t

-- A move was answered: whatever steps the transport stood for, the answer is that of the definitions, and the transport
-- now stands for these steps with the move, where it was accepted, at their end.
abbrev pub Conveys : TransportState → Step → Reply → TransportState → Type 0
Conveys old s answer new = (plan : Plan) (steps : List Step) (put : ℕ → List Note) (taken : List Item) →
    IsTransportOf plan steps put taken old →
    ((emissions : ℕ → List Note) → IsAnswer (reasons plan emissions steps s) answer)
    × IsTransportOf plan (steps ++ accepted_by s answer) put taken new

-- A note that was pending is on the link of its process now, if that had room; the answer to its put is that of the
-- definitions.
abbrev pub Puts : TransportState → ℕ → Note → Bool → TransportState → Type 0
Puts old p note room new = (plan : Plan) (steps : List Step) (put : ℕ → List Note) (taken : List Item) →
    (emissions : ℕ → List Note) → IsTransportOf plan steps put taken old →
    0 < notes_in plan emissions steps (Pending p) →
    IsAnswer (reasons plan emissions steps (step.Put p)) (if room then Done else Refused Full)
    × (room ≡ true → IsTransportOf plan (steps ++ step.Put p ∷ []) (put_more put p note) taken new)

-- Process p was lost, of which so many notes were put: its link was given the mark that counts them.
abbrev pub IsGivenMark : TransportState → ℕ → ℕ → TransportState → Type 0
IsGivenMark old p count new = (plan : Plan) (steps : List Step) (put : ℕ → List Note) (taken : List Item) →
    IsTransportOf plan steps put taken old → p < plan.n → is_dropped steps p ≡ false → count ≡ length (put p) →
    IsTransportOf plan (steps ++ step.Dropped p ∷ []) put taken new

-- A transport that stands for some steps after which this process is not lost.
abbrev pub MayLose : TransportState → ℕ → Type 0
MayLose t p = (plan : Plan) × (steps : List Step) × (put : ℕ → List Note) × (taken : List Item)
    × IsTransportOf plan steps put taken t × (p < plan.n) × (is_dropped steps p ≡ false)

-- The item whose turn it is in the root inbox.
abbrev pub next_of : TransportState → Option Item
next_of t = slice_get (held_at t.places (place_number t.plan (InboxOf Root))).items 0

-- An item is the next of the root inbox: of the items that entered it, and of the notes that its process put.
pub record IsNextAtRoot (plan : Plan) (steps : List Step) (put : ℕ → List Note) (taken : List Item) (item : Item)
    : Type 0 where
  pub some : 0 < notes_in plan put steps (InboxOf Root)
  pub entry : IsEntry plan put steps (InboxOf Root) (taken_from steps (InboxOf Root)) item
  pub process : item.from < plan.n
  pub rest : List Note
  pub prefix : notes_taken item.from (taken ++ item ∷ []) ++ rest ≡ given steps item.from (put item.from)

abbrev pub ReadsNext : TransportState → Option Item → Type 0
ReadsNext t next = (plan : Plan) (steps : List Step) (put : ℕ → List Note) (taken : List Item) →
    IsTransportOf plan steps put taken t →
    MatchOption next (notes_in plan put steps (InboxOf Root) ≡ 0) (IsNextAtRoot plan steps put taken)

-- The checker took the item whose turn it was.
abbrev pub TakesNext : TransportState → TransportState → Type 0
TakesNext old new = (plan : Plan) (steps : List Step) (put : ℕ → List Note) (taken : List Item) (item : Item) →
    IsTransportOf plan steps put taken old → next_of old ≡ Some item →
    IsTransportOf plan (steps ++ step.Check ∷ []) put (taken ++ item ∷ []) new

-- A step moves an item from the place of one number to the place after it, which has the other number.
pub record IsMoveBetween (plan : Plan) (s : Step) (i j : ℕ) : Type 0 where
  pub from : Place
  pub to : Place
  pub takes : source s ≡ Some from
  pub is_from : IsPlaceOf plan from
  pub is_next : next_place plan from ≡ Some to
  pub named : names_nothing plan s ≡ false
  pub number_from : i ≡ place_number plan from
  pub number_to : j ≡ place_number plan to

-- The steps by which relays move items.
abbrev pub is_relayed : Step → Bool
is_relayed (step.Admit relay p) = true
is_relayed (step.Pull relay) = true
is_relayed (step.Pass relay) = true
is_relayed s = false

-- From which place to which a step moves an item, by number, unless it names nothing.
abbrev pub IsWayOf : TransportState → Step → Option (ℕ × ℕ) → Type 0
IsWayOf t s way = (plan : Plan) (steps : List Step) (put : ℕ → List Note) (taken : List Item) →
    IsTransportOf plan steps put taken t →
    MatchOption way (names_nothing plan s ≡ true) (λ ends. IsMoveBetween plan s ends.0 ends.1)

-- Why the first item of one place may not move to another.
abbrev pub shift_reasons : List Held → ℕ → ℕ → List (Bool × Why)
shift_reasons places from to =
    (length (held_at places from).items == 0, Empty)
    ∷ (length (held_at places to).items == (held_at places to).room, Full) ∷ []

-- The first item of one place has moved behind those of another.
pub record IsShift (old : List Held) (from to : ℕ) (new : List Held) : Type 0 where
  pub item : Item
  pub left : List Item
  pub first : (held_at old from).items ≡ item ∷ left
  pub fits : length (held_at old to).items ≢ (held_at old to).room
  pub moved : new ≡ slice_set (slice_set old to (record (held_at old to) {
    items = (held_at old to).items ++ item ∷ [];
  })) from (record (held_at old from) { items = left })
