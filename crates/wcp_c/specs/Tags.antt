use Rattle.std.specs.Prelude.{◌≡◌, ◌≢◌, ◌==◌, ◌⊎◌, ◌++◌, ℕ, false, List, [], ◌∷◌, Contains, map, slice_index}
use Rattle.std.specs.Prelude.{◌<◌, length, if◌then◌else◌}
use Rattle.wcp_clock.specs.declared.note.Item.{Item}
use Rattle.wcp_clock.specs.declared.note.Note.{Note}
use Rattle.wcp_clock.specs.declared.note.Note.TheVariants.{Snap, Close, Lost}
use Rattle.wcp_model.specs.Cut.{Intervals, interval_of}
use Rattle.wcp_model.specs.Report.{IsNamed}
use Rattle.wcp_model.specs.Watched.{IsWatched}
use Rattle.wcp_model.specs.declared.outcome.Report.TheVariants.{Found}
use Rattle.wcp_queue.specs.Candidates.{IsCutToCome}
use Rattle.wcp_queue.specs.Checker.{CheckerState, processes, report_of, StandsForItems}
use Rattle.wcp_c.specs.Questions.{checker_at, checkers_of}
use Rattle.wcp_saved.specs.declared.watch.Tagged.{Tagged}
use Rattle.wcp_c.specs.declared.watching.Watching.{Watching}

-- An item that was taken, and the tag of its note, where 0 says that it has none.
pub record TakenItem : Type 0 where
  pub item : Item
  pub tag : ℕ

abbrev pub items_of : List TakenItem → List Item
items_of taken = map (λ one. one.item) taken

-- The tag of a snapshot of process p, unless it is 0; a last note is in no cut.
abbrev pub tags_by : ℕ → Note → ℕ → List Tagged
tags_by p (Snap number clock) tag =
    if tag == 0 then [] else record { process = p; interval = slice_index clock p; tag = tag } ∷ []
tags_by p (Close count) tag = []
tags_by p (Lost count) tag = []

abbrev pub tags_in : TakenItem → List Tagged
tags_in one = tags_by one.item.from one.item.note one.tag

-- The tags of the snapshots among what was taken.
abbrev pub tags_of : List TakenItem → List Tagged
tags_of [] = []
tags_of (one ∷ taken) = tags_in one ++ tags_of taken

-- Among what was taken there is a snapshot of process p in this interval, with this tag.
pub record IsTagOf (taken : List TakenItem) (p interval tag : ℕ) : Type 0 where
  pub one : TakenItem
  pub among : Contains taken one
  pub number : ℕ
  pub clock : List ℕ
  pub item : one.item ≡ record { from = p; note = Snap number clock }
  pub own : slice_index clock p ≡ interval
  pub tagged : one.tag ≡ tag

-- A cut that the checker may report once it has taken more: where it has found one, that is it.
pub record IsReportToCome (checker : CheckerState) (items : List Item) (cut : Intervals) : Type 0 where
  pub come : IsCutToCome checker items cut
  pub found : (known : Intervals) → report_of checker ≡ Found known → known ≡ cut

-- No cut that the checker may report has the snapshot with this tag.
abbrev pub IsPast : CheckerState → List Item → Tagged → Type 0
IsPast checker items tagged =
    (cut : Intervals) → IsReportToCome checker items cut → tagged.interval ≢ interval_of cut tagged.process

-- The tag of a snapshot can't be asked of a question any more, whatever was taken.
abbrev pub IsSpent : CheckerState → Tagged → Type 0
IsSpent checker tagged = (items : List Item) → StandsForItems checker items → checker.starved ≡ false
    → IsWatched (processes checker) checker.watched tagged.process
    → IsNamed items (record { process = tagged.process; interval = tagged.interval }) → IsPast checker items tagged

-- A question and the shelf stand for what was taken: the shelf has tags of snapshots that were taken, and each of a
-- watched process that may be in the cut.
pub record StandsForTaken (checker : CheckerState) (shelf : List Tagged) (taken : List TakenItem) : Type 0 where
  pub stands : StandsForItems checker (items_of taken)
  pub not_starved : checker.starved ≡ false
  pub right : (tagged : Tagged) → Contains shelf tagged → Contains (tags_of taken) tagged
  pub kept : (tagged : Tagged) → Contains (tags_of taken) tagged
      → IsWatched (processes checker) checker.watched tagged.process
      → Contains shelf tagged ⊎ IsPast checker (items_of taken) tagged

-- An item was taken with its tag: where a question stood for what was taken, it stands for that and this at its end,
-- unless it was starved.
abbrev pub TakesTagged : Watching → Watching → Item → ℕ → Type 0
TakesTagged old new item tag = (question : ℕ) → question < length (checkers_of old.questions)
    → (checker_at new.questions question).starved ≡ false → (taken : List TakenItem)
    → StandsForTaken (checker_at old.questions question) old.shelf taken
    → StandsForTaken (checker_at new.questions question) new.shelf (taken ++ record { item = item; tag = tag } ∷ [])
