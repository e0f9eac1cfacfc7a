use Rattle.std.specs.Prelude.{◌≡◌, ◌==◌, ℕ, ◌<◌, List, [], ◌∷◌, ◌++◌, filter, map, slice_index, Contains}
use Rattle.wcp_clock.specs.declared.note.Item.{Item}
use Rattle.wcp_clock.specs.declared.note.Note.{Note}
use Rattle.wcp_clock.specs.declared.note.Note.TheVariants as note
use Rattle.wcp_clock.specs.ProcessNumbers.{NumberSet}
use Rattle.wcp_model.specs.declared.flag.Flag.{Flag}
use Rattle.wcp_model.specs.declared.outcome.Report.{Report}
use Rattle.wcp_model.specs.declared.state.State.{State}
use Rattle.wcp_model.specs.Computation.{Computation}
use Rattle.wcp_model.specs.Cut.{Intervals, member, IsSatisfyingCut}
use Rattle.wcp_model.specs.Emission.{AreEmissions}
use Rattle.wcp_model.specs.Outcome.{IsReportOn}
use Rattle.wcp_model.specs.Watched.{IsWatched}

-- What a checker has taken is the list of its items, in the order in which it took them; the notes taken of one process
-- are those of its items, in that order (Garg and Waldecker 1994: what the checker process received from each process).
abbrev pub notes_taken : ℕ → List Item → List Note
notes_taken p items = map (λ item. item.note) (filter (λ item. item.from == p) items)

-- The clocks of the snapshots among these notes, in order.
abbrev pub snapshot_clocks : List Note → List (List ℕ)
snapshot_clocks [] = []
snapshot_clocks (note.Snap number clock ∷ notes) = clock ∷ snapshot_clocks notes
snapshot_clocks (note.Close count ∷ notes) = snapshot_clocks notes
snapshot_clocks (note.Lost count ∷ notes) = snapshot_clocks notes

-- The clocks of the snapshots taken of one process, in order.
abbrev pub clocks_taken : ℕ → List Item → List (List ℕ)
clocks_taken p items = snapshot_clocks (notes_taken p items)

-- What was taken of each process is a prefix of its emissions in the computation.
abbrev pub ArePrefixesOfEmissions : ℕ → NumberSet → Flag → Computation → List Item → Type 0
ArePrefixesOfEmissions n watched flag c items = (p : ℕ) → p < n →
    (rest : List Note) × AreEmissions n watched flag c p (notes_taken p items ++ rest)

-- All is drained if the notes taken of each process end with its close mark.
abbrev pub IsDrained : ℕ → List Item → Type 0
IsDrained n items = (p : ℕ) → p < n →
    (count : ℕ) × (before : List Note) × (notes_taken p items ≡ before ++ note.Close count ∷ [])

-- A taken snapshot of a process names its state in the interval that is the clock's own component (Garg and Waldecker
-- 1994).
pub record IsNamed (items : List Item) (s : State) : Type 0 where
  pub clock : List ℕ
  pub taken : Contains (clocks_taken s.process items) clock
  pub own : slice_index clock s.process ≡ s.interval

-- A satisfying cut among the states that the taken snapshots name.
pub record IsNamedCut (n : ℕ) (watched : NumberSet) (c : Computation) (items : List Item) (cut : Intervals)
    : Type 0 where
  pub satisfying : IsSatisfyingCut n watched c cut
  pub named : (p : ℕ) → IsWatched n watched p → IsNamed items (member cut p)

-- The report of what was taken, on the states that it names (Garg and Waldecker 1994: detection of the first cut).
abbrev pub IsReportOfTaken : ℕ → NumberSet → Computation → List Item → Report → Type 0
IsReportOfTaken n watched c items = IsReportOn n watched (IsNamedCut n watched c items) (IsDrained n items)
