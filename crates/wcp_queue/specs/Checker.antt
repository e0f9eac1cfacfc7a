use Rattle.std.specs.Prelude.{◌≡◌, ◌+◌, ◌*◌, ◌^◌, ◌<◌, ◌≤◌, ℕ, Bool, true, false, Option, Some, None, MatchOption}
use Rattle.std.specs.Prelude.{IfSome, List, [], ◌∷◌, ◌++◌, length, take, sum, count_by, All, slice_index}
use Rattle.std.specs.Prelude.{slice_index_or, slice_set, replicate, if◌then◌else◌}
use Rattle.std.specs.List.{list_any, list_all}
use Rattle.std.specs.Option.{option_map}
use Rattle.wcp_clock.specs.ProcessNumbers.{NumberSet}
use Rattle.wcp_clock.specs.Limits.{most_processes}
use Rattle.wcp_clock.specs.declared.note.Item.{Item}
use Rattle.wcp_model.specs.declared.outcome.Report.{Report}
use Rattle.wcp_model.specs.declared.outcome.Report.TheVariants.{Found, Nothing, Undecided}
use Rattle.wcp_clock.specs.Notes as notes
use Rattle.wcp_clock.specs.Notes.{is_close, is_lost, place_of}
use Rattle.wcp_model.specs.Cut.{Intervals, IsLeastOf}
use Rattle.wcp_model.specs.Watched.{AreSomeWatched}
use Rattle.wcp_queue.specs.Rows.{members_of, rows_of, cut_of}
use Rattle.wcp_model.specs.Report.{notes_taken, clocks_taken, IsDrained}
use Rattle.wcp_model.specs.ReportByClocks.{AreInTurn, ClocksRise, IsCutByClocks}
use Rattle.wcp_queue.specs.declared.floor.Floor.{Floor}
use Rattle.wcp_queue.specs.Floor.{HaveHeads}
use Rattle.wcp_queue.specs.Elimination.{AreStable, AreLeft, IsFoundAmong, waiting_in, tests_each}

-- What a checker has come to: how many processes there are, which of them are watched, and these by rising number; the
-- queue of each watched process and the floor under the heads; how many snapshots of each process it took and whether
-- it took its close mark or the mark that it was lost; the intervals of the watched processes in the cut that it found;
-- and whether it was starved of memory.
pub record CheckerState : Type 0 where
  pub count : ℕ
  pub watched : NumberSet
  pub members : List ℕ
  pub queues : List (List (List ℕ))
  pub floor : Floor
  pub taken : List ℕ
  pub closed : List Bool
  pub lost : List Bool
  pub found : Option (List ℕ)
  pub starved : Bool

-- How many processes there are, and how many snapshots of one it took.
abbrev pub processes : CheckerState → ℕ
processes checker = checker.count

abbrev pub taken_of : CheckerState → ℕ → ℕ
taken_of checker p = slice_index checker.taken p

-- Whether it took the close mark of one.
abbrev pub closed_of : CheckerState → ℕ → Bool
closed_of checker p = slice_index_or checker.closed p false

-- Whether it took the mark that one was lost.
abbrev pub lost_of : CheckerState → ℕ → Bool
lost_of checker p = slice_index_or checker.lost p false

-- Its report: the cut found; else nothing, once every close mark was taken, unless it was starved.
abbrev pub report_from : Option Intervals → Bool → Bool → Report
report_from (Some cut) starved closed = Found cut
report_from None true closed = Undecided
report_from None false true = Nothing
report_from None false false = Undecided

abbrev pub report_of : CheckerState → Report
report_of checker = report_from (option_map (cut_of checker.count checker.members) checker.found) checker.starved
    (list_all (λ closed. closed) (take (processes checker) checker.closed))

abbrev pub is_snapshot : Item → Bool
is_snapshot item = notes.is_snapshot item.note

-- A checker may take an item that is the next of its process: its place is the number of snapshots taken of that
-- process, of which no last note was taken.
pub record MayTake (checker : CheckerState) (item : Item) : Type 0 where
  pub from : item.from < processes checker
  pub place : place_of item.note ≡ taken_of checker item.from
  pub still_open : closed_of checker item.from ≡ false
  pub not_lost : lost_of checker item.from ≡ false

-- A checker stands for the list of items that it took, those of each process in turn: it has counted them; where it
-- found a cut, that was among their snapshots; and else, unless it was starved, its queues and heads are what
-- elimination leaves of the clocks of these (Garg and Waldecker 1994).
pub record StandsForItems (checker : CheckerState) (items : List Item) : Type 0 where
  pub taken : (p : ℕ) → p < processes checker → taken_of checker p ≡ length (clocks_taken p items)
  pub snapshots : sum checker.taken ≡ count_by is_snapshot items
  pub closed : (p : ℕ) → p < processes checker → closed_of checker p ≡ list_any is_close (notes_taken p items)
  pub lost : (p : ℕ) → p < processes checker → lost_of checker p ≡ list_any is_lost (notes_taken p items)
  pub in_turn : (p : ℕ) → p < processes checker → AreInTurn (notes_taken p items)
  pub candidates : MatchOption checker.found
      (checker.starved ≡ false → AreLeft (length checker.queues) (rows_of checker.members items)
      checker.queues checker.floor)
      (IsFoundAmong (length checker.queues) (rows_of checker.members items))

-- A checker has counted nothing of any process.
pub record HasCountedNone (checker : CheckerState) : Type 0 where
  pub taken : checker.taken ≡ replicate most_processes 0
  pub closed : checker.closed ≡ replicate most_processes false
  pub lost : checker.lost ≡ replicate most_processes false

-- A checker counts an item: one more snapshot of its process, or the mark that ends it.
pub record CountsItem (old new : CheckerState) (item : Item) : Type 0 where
  pub taken : new.taken
      ≡ (if is_snapshot item then slice_set old.taken item.from (taken_of old item.from + 1) else old.taken)
  pub closed : new.closed ≡ (if is_close item.note then slice_set old.closed item.from true else old.closed)
  pub lost : new.lost ≡ (if is_lost item.note then slice_set old.lost item.from true else old.lost)

-- A checker took an item: where it stood for a list, it stands for that list with the item at its end; it has counted
-- the item; it is starved where it was before, and the same processes are watched.
pub record TakesItem (old new : CheckerState) (item : Item) : Type 0 where
  pub stands : (items : List Item) → StandsForItems old items → StandsForItems new (items ++ item ∷ [])
  pub counts : CountsItem old new item
  pub starved : new.starved ≡ old.starved
  pub watched : new.watched ≡ old.watched

-- A checker searches until it has found a cut or is starved.
pub record IsSearching (checker : CheckerState) : Type 0 where
  pub none_found : checker.found ≡ None
  pub not_starved : checker.starved ≡ false

-- A checker grows nothing: what it has of candidates stays, and so does the cut that it found.
pub record GrowsNothing (old new : CheckerState) : Type 0 where
  pub queues : new.queues ≡ old.queues
  pub floor : new.floor ≡ old.floor
  pub found : new.found ≡ old.found

-- A cut that is found stays the report.
abbrev pub KeepsFound : CheckerState → CheckerState → Type 0
KeepsFound old new = (cut : Intervals) → report_of old ≡ Found cut → report_of new ≡ Found cut

abbrev pub HasFound : CheckerState → Type 0
HasFound checker = (cut : Intervals) × (report_of checker ≡ Found cut)

-- What holds of the report whatever the clocks are: a found cut is one of taken snapshots of which none precedes
-- another by its clock, and otherwise it says whether all is drained.
abbrev pub IsReportOfAnyClocks : ℕ → NumberSet → List Item → Report → Type 0
IsReportOfAnyClocks n watched items (Found cut) = IsCutByClocks n watched items cut
IsReportOfAnyClocks n watched items Nothing = IsDrained n items
IsReportOfAnyClocks n watched items Undecided = IsDrained n items → ⊥

-- What holds of the report of a checker that was starved: a found cut is one of taken snapshots of which none precedes
-- another by its clock, and the least where the clocks rise; and it never says that there is none.
abbrev pub IsReportOfStarved : ℕ → NumberSet → List Item → Report → Type 0
IsReportOfStarved n watched items (Found cut) = IsCutByClocks n watched items cut
    × (ClocksRise n items → IsLeastOf n watched (IsCutByClocks n watched items) cut)
IsReportOfStarved n watched items Nothing = ⊥
IsReportOfStarved n watched items Undecided = Unit {0}

-- What is true of every checker: nothing waits of a watched process without a head, such a process is waited for until
-- a cut is found, and a snapshot costs at most one component test for each watched process, and none where there is one
-- alone.
pub record IsSoundChecker (checker : CheckerState) : Type 0 where
  pub few : processes checker ≤ most_processes
  pub watched : AreSomeWatched checker.count checker.watched
  pub members : checker.members ≡ members_of checker.count checker.watched
  pub rows : length checker.queues ≡ length checker.members
  pub intervals : IfSome checker.found (λ intervals. length intervals ≡ length checker.members)
  pub counts : length checker.taken ≡ most_processes
  pub marks : length checker.closed ≡ most_processes
  pub losses : length checker.lost ≡ most_processes
  pub apart : (p : ℕ) → lost_of checker p ≡ true → closed_of checker p ≡ false
  pub few_taken : All (λ count. count ≤ 2 ^ 32) checker.taken
  pub stable : AreStable checker.queues checker.floor
  pub waiting : checker.found ≡ None → HaveHeads (length checker.queues) checker.floor → ⊥
  pub bound : checker.floor.tests + tests_each (length checker.queues) * waiting_in checker.queues
      ≤ tests_each (length checker.queues) * sum checker.taken
