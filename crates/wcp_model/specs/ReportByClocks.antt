use Rattle.std.specs.Prelude.{◌≡◌, ◌≢◌, ℕ, ◌<◌, ◌≤◌, false, List, [], ◌∷◌, ◌++◌, length, slice_index}
use Rattle.std.specs.Prelude.{slice_index_or, Contains}
use Rattle.std.specs.List.{list_any}
use Rattle.wcp_clock.specs.declared.note.Item.{Item}
use Rattle.wcp_clock.specs.declared.note.Note.{Note}
use Rattle.wcp_clock.specs.Notes.{is_last, place_of}
use Rattle.wcp_clock.specs.ProcessNumbers.{NumberSet}
use Rattle.wcp_model.specs.declared.outcome.Report.{Report}
use Rattle.wcp_model.specs.Cut.{Intervals, NamesWatched, interval_of}
use Rattle.wcp_model.specs.Outcome.{IsReportOn}
use Rattle.wcp_model.specs.Watched.{IsWatched}
use Rattle.wcp_model.specs.Report.{snapshot_clocks, clocks_taken, IsDrained}

-- A note is next after these of its process if its place is the number of snapshots among them, and none of them is a
-- last one.
pub record IsNextNote (notes : List Note) (next : Note) : Type 0 where
  pub place : place_of next ≡ length (snapshot_clocks notes)
  pub still_open : list_any is_last notes ≡ false

-- The notes of a process are in turn if each is next after those before it: so nothing follows a last note.
abbrev pub AreInTurn : List Note → Type 0
AreInTurn notes = (before after : List Note) (next : Note) → notes ≡ before ++ next ∷ after → IsNextNote before next

-- A cut read by clocks alone, each named state counted as true: one taken snapshot of each watched process, where none
-- precedes another; it would if its own component were less than the other's there (Mattern 1989; Garg and Waldecker
-- 1994).
pub record IsCutByClocks (n : ℕ) (watched : NumberSet) (items : List Item) (cut : Intervals) : Type 0 where
  pub members : NamesWatched n watched cut
  pub clock : ℕ → List ℕ
  pub taken : (p : ℕ) → IsWatched n watched p → Contains (clocks_taken p items) (clock p)
  pub own : (p : ℕ) → IsWatched n watched p → slice_index (clock p) p ≡ interval_of cut p
  pub concurrent : (p q : ℕ) → IsWatched n watched p → IsWatched n watched q → p ≢ q →
      slice_index (clock p) p < slice_index (clock q) p → ⊥

-- The report of what was taken, read by clocks alone.
abbrev pub IsReportByClocks : ℕ → NumberSet → List Item → Report → Type 0
IsReportByClocks n watched items = IsReportOn n watched (IsCutByClocks n watched items) (IsDrained n items)

-- These clocks of process p never fall in a component, and rise in its own (Fidge 1988; Mattern 1989: clocks grow
-- along a process).
pub record AreRising (p : ℕ) (clocks : List (List ℕ)) : Type 0 where
  pub never_fall : (i j q : ℕ) → i ≤ j → j < length clocks →
      slice_index (slice_index_or clocks i []) q ≤ slice_index (slice_index_or clocks j []) q
  pub rise : (i j : ℕ) → i < j → j < length clocks →
      slice_index (slice_index_or clocks i []) p < slice_index (slice_index_or clocks j []) p

-- The clocks taken of each process never fall in a component, and rise in its own.
abbrev pub ClocksRise : ℕ → List Item → Type 0
ClocksRise n items = (p : ℕ) → p < n → AreRising p (clocks_taken p items)
