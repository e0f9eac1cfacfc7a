use Rattle.std.specs.Prelude.{◌≡◌, ◌==◌, ℕ, ◌-◌, Bool, true, false, Option, Some, None, List, length, take, count_by}
use Rattle.std.specs.Prelude.{if◌then◌else◌, slice_get}
use Rattle.std.specs.Option.{option_map, option_and_then}
use Rattle.wcp_clock.specs.declared.note.Item.{Item}
use Rattle.wcp_clock.specs.declared.note.Note.{Note}
use Rattle.wcp_clock.specs.declared.note.Note.TheVariants as note
use Rattle.wcp_model.specs.declared.step.Step.{Step}
use Rattle.wcp_model.specs.declared.step.Step.TheVariants as step
use Rattle.wcp_model.specs.declared.plan.Parent.{Parent}
use Rattle.wcp_model.specs.declared.plan.Parent.TheVariants as parent
use Rattle.wcp_model.specs.declared.plan.Plan.{Plan}
use Rattle.wcp_model.specs.Emission.{is_dropped}
use Rattle.wcp_model.specs.Tree.{leaf_of, parent_of}

-- Where a note can be on its way to the checker: pending at its probe, on its process's link, in a relay's hold, or
-- in the inbox of a relay or of the root, which is the checker's.
pub data Place : Type 0 where
  Pending : (p : ℕ) → Place
  Link : (p : ℕ) → Place
  HoldOf : (relay : ℕ) → Place
  InboxOf : (owner : Parent) → Place

abbrev pub is_same_owner : Parent → Parent → Bool
is_same_owner parent.Root parent.Root = true
is_same_owner (parent.Relay r) (parent.Relay s) = r == s
is_same_owner _ _ = false

abbrev pub is_same_place : Place → Place → Bool
is_same_place (Pending p) (Pending q) = p == q
is_same_place (Link p) (Link q) = p == q
is_same_place (HoldOf r) (HoldOf s) = r == s
is_same_place (InboxOf owner) (InboxOf other) = is_same_owner owner other
is_same_place _ _ = false

-- The place that follows a place on the way to the checker.
abbrev pub next_place : Plan → Place → Option Place
next_place plan (Pending p) = Some (Link p)
next_place plan (Link p) = option_map HoldOf (leaf_of plan p)
next_place plan (HoldOf relay) = option_map InboxOf (parent_of plan relay)
next_place plan (InboxOf (parent.Relay relay)) = Some (HoldOf relay)
next_place plan (InboxOf parent.Root) = None

-- The place that a step takes a note from, and the one that it puts the note into, which is the next.
abbrev pub source : Step → Option Place
source (step.Put p) = Some (Pending p)
source (step.Admit relay p) = Some (Link p)
source (step.Pull relay) = Some (InboxOf (parent.Relay relay))
source (step.Pass relay) = Some (HoldOf relay)
source step.Check = Some (InboxOf parent.Root)
source _ = None

abbrev pub target : Plan → Step → Option Place
target plan s = option_and_then (next_place plan) (source s)

-- The place that a step puts a note into: its target, and for a drop the link of the process, which the mark of the
-- lost process enters.
abbrev pub entered : Plan → Step → Option Place
entered plan (step.Dropped p) = Some (Link p)
entered plan s = target plan s

abbrev pub is_place : Place → Option Place → Bool
is_place place (Some other) = is_same_place place other
is_place place None = false

abbrev pub takes_from : Place → Step → Bool
takes_from place s = is_place place (source s)

abbrev pub puts_into : Plan → Place → Step → Bool
puts_into plan place s = is_place place (entered plan s)

-- How many notes were taken from a place, and how many entered it, by these accepted steps and where these are the
-- emissions of each process: each emission becomes pending at its probe.
abbrev pub taken_from : List Step → Place → ℕ
taken_from steps place = count_by (takes_from place) steps

abbrev pub put_into : Plan → (ℕ → List Note) → List Step → Place → ℕ
put_into plan emissions steps (Pending p) = length (emissions p)
put_into plan emissions steps place = count_by (puts_into plan place) steps

-- What was pending at a dropped process is gone.
abbrev pub is_gone : List Step → Place → Bool
is_gone steps (Pending p) = is_dropped steps p
is_gone steps place = false

abbrev pub notes_in : Plan → (ℕ → List Note) → List Step → Place → ℕ
notes_in plan emissions steps place =
    if is_gone steps place then 0 else put_into plan emissions steps place - taken_from steps place

-- How many notes a place has room for.
abbrev pub room_of : Plan → Place → ℕ
room_of plan (HoldOf relay) = plan.hold
room_of plan _ = plan.cap

-- A step takes the entry of this number from one place, and puts it into the next as the entry of that number: as
-- many were taken from the one, and put into the other, before.
pub record IsMove (plan : Plan) (steps : List Step) (from : Place) (i : ℕ) (to : Place) (k : ℕ) : Type 0 where
  pub at : ℕ
  pub step : Step
  pub there : slice_get steps at ≡ Some step
  pub takes : source step ≡ Some from
  pub puts : next_place plan from ≡ Some to
  pub taken_before : taken_from (take at steps) from ≡ i
  pub put_before : count_by (puts_into plan to) (take at steps) ≡ k

-- A process is dropped, and so many notes were put on its link before.
pub record IsDrop (plan : Plan) (steps : List Step) (p k : ℕ) : Type 0 where
  pub at : ℕ
  pub there : slice_get steps at ≡ Some (step.Dropped p)
  pub put_before : count_by (puts_into plan (Link p)) (take at steps) ≡ k

-- The item that entered a place as the entry of this number: at a probe the emission of this number, on the link of a
-- dropped process the mark that counts the notes put there before, and elsewhere what a step took from the place before
-- it. So each place is first in, first out.
pub data IsEntry (plan : Plan) (emissions : ℕ → List Note) (steps : List Step) : Place → ℕ → Item → Type 0 where
  Emitted : {p i : ℕ} {note : Note} → slice_get (emissions p) i ≡ Some note →
      IsEntry plan emissions steps (Pending p) i (record { from = p; note = note })
  Vanished : {p k : ℕ} → IsDrop plan steps p k →
      IsEntry plan emissions steps (Link p) k (record { from = p; note = note.Lost k })
  Moved : {from to : Place} {i k : ℕ} {item : Item} → IsEntry plan emissions steps from i item →
      IsMove plan steps from i to k → IsEntry plan emissions steps to k item
