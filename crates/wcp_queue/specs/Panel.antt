use Rattle.std.specs.Prelude.{◌≡◌, ℕ, ◌<◌, true, false, None, List, [], ◌∷◌, ◌++◌, length, map, All, slice_index_or}
use Rattle.std.specs.FinSet as set
use Rattle.wcp_clock.specs.ProcessNumbers.{NumberSet}
use Rattle.wcp_clock.specs.declared.note.Item.{Item}
use Rattle.wcp_clock.specs.Notes.{is_last}
use Rattle.wcp_queue.specs.Checker.{CheckerState, StandsForItems, MayTake, KeepsFound, GrowsNothing, IsSearching}
use Rattle.wcp_queue.specs.Checker.{processes, CountsItem}
use Rattle.wcp_queue.specs.Floor.{first_floor}

-- A panel asks several questions of the same snapshots, each with its own watched processes: it has a checker for each.

-- What stands past the last question.
abbrev pub no_question : CheckerState
no_question = record {
  count = 0;
  watched = set.empty;
  members = [];
  queues = [];
  floor = first_floor;
  taken = [];
  closed = [];
  lost = [];
  found = None;
  starved = false;
}

-- The question of a number, counted from 0.
abbrev pub question_at : List CheckerState → ℕ → CheckerState
question_at panel question = slice_index_or panel question no_question

-- The watched processes of each question.
abbrev pub watched_by : List CheckerState → List NumberSet
watched_by panel = map (λ checker. checker.watched) panel

-- Each question has taken these items.
abbrev pub StandForItems : List CheckerState → List Item → Type 0
StandForItems panel items = All (λ checker. StandsForItems checker items) panel

-- Each question may take the item.
abbrev pub MayAllTake : List CheckerState → Item → Type 0
MayAllTake panel item = All (λ checker. MayTake checker item) panel

-- A question takes an item; where there is no memory for it, it is starved first. It is starved at no item but a
-- snapshot, and only while it searches; then it keeps nothing of that snapshot but the count.
pub record TakesOrIsStarved (old new : CheckerState) (item : Item) : Type 0 where
  pub stands : (items : List Item) → StandsForItems old items → StandsForItems new (items ++ item ∷ [])
  pub counts : CountsItem old new item
  pub watched : new.watched ≡ old.watched
  pub processes : processes new ≡ processes old
  pub found_stays : KeepsFound old new
  pub stays_starved : old.starved ≡ true → new.starved ≡ true
  pub last_needs_none : is_last item.note ≡ true → new.starved ≡ old.starved
  pub needs_none : ¬ IsSearching old → new.starved ≡ old.starved
  pub grows_nothing : ¬ IsSearching old → GrowsNothing old new
  pub starved_grows_nothing : new.starved ≡ true → GrowsNothing old new

-- Each question takes an item, whatever becomes of the others.
pub record EachTakes (old new : List CheckerState) (item : Item) : Type 0 where
  pub as_many : length new ≡ length old
  pub each : (question : ℕ) → question < length old →
      TakesOrIsStarved (question_at old question) (question_at new question) item

-- Two checkers have taken alike: they are of as many processes, and have counted as many snapshots of each process and
-- the same marks.
pub record HaveTakenAlike (one other : CheckerState) : Type 0 where
  pub processes : processes other ≡ processes one
  pub taken : other.taken ≡ one.taken
  pub closed : other.closed ≡ one.closed
  pub lost : other.lost ≡ one.lost

-- What is true of every panel: it has a question, and the others have taken as the first one has.
pub record IsSoundPanel (panel : List CheckerState) : Type 0 where
  pub some : 0 < length panel
  pub alike : All (HaveTakenAlike (question_at panel 0)) panel
