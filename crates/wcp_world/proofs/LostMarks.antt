use Rattle.wcp_world.proofs.Words.{NumberSet, Flag, ◌≡◌, ℕ, ◌+◌, ◌<◌, Bool, true, false, not, List, [], ◌∷◌, ◌++◌}
use Rattle.wcp_world.proofs.Words.{length, filter, filter-append, refl, sym, ap, ◌∙◌, subst, append-nil, append_assoc}
use Rattle.wcp_world.proofs.Words.{arith, if◌then◌else◌, Item, Note, Computation, Step, AreEmissions, AreInTurn}
use Rattle.wcp_world.proofs.Words.{IsReportByClocks, ClocksRise, notes_taken, computation, is_closed, is_dropped}
use Rattle.wcp_world.proofs.Words.{nothing_follows}
use Rattle.std.specs.List.{list_any}
use Rattle.wcp_model.specs.Cut.{Intervals}
use Rattle.wcp_clock.specs.declared.note.Note.TheVariants as note
use Rattle.wcp_clock.specs.Notes.{is_last, is_lost}
use Rattle.wcp_model.specs.Emission.{snapshots_from}
use Rattle.wcp_model.specs.Report.{snapshot_clocks, clocks_taken, IsDrained}
use Rattle.wcp_model.specs.ReportByClocks.{IsCutByClocks}
use Rattle.wcp_model.specs.declared.outcome.Report.{Report}
use Rattle.wcp_model.specs.declared.outcome.Report.TheVariants.{Found, Nothing, Undecided}
use Rattle.wcp_model.proofs.NotesInTurn.{emissions_in_turn, AreInTurn-push}
use Rattle.wcp_world.specs.World.{without_lost}

-- whether a note is no mark of a lost process
abbrev pub is_kept : Note → Bool
is_kept note = not (is_lost note)

-- the steps of a computation drop what all steps drop
pub dropped_among : (steps : List Step) (p : ℕ) → is_dropped (computation steps) p ≡ is_dropped steps p
dropped_among [] p = refl
dropped_among (s ∷ steps) p = grind (arith, dropped_among steps p)

-- the notes of a process among items without marks are those among all, without marks
pub notes_without : (p : ℕ) (items : List Item)
    → notes_taken p (without_lost items) ≡ filter is_kept (notes_taken p items)
notes_without p [] = refl
notes_without p (item ∷ items) = grind (arith, notes_without p items)

clocks_kept : (notes : List Note) → snapshot_clocks (filter is_kept notes) ≡ snapshot_clocks notes
clocks_kept [] = refl
clocks_kept (note.Snap number clock ∷ notes) = ap (λ clocks. clock ∷ clocks) (clocks_kept notes)
clocks_kept (note.Close count ∷ notes) = clocks_kept notes
clocks_kept (note.Lost count ∷ notes) = clocks_kept notes

-- and so are their clocks
pub clocks_without : (p : ℕ) (items : List Item) → clocks_taken p (without_lost items) ≡ clocks_taken p items
clocks_without p items = ap snapshot_clocks (notes_without p items) ∙ clocks_kept (notes_taken p items)

-- no mark is among the first notes that a process emits
front_kept : (number count : ℕ) (closed : Bool) (clocks : List (List ℕ)) (front rest : List Note) →
    snapshots_from number clocks ++ (if closed then note.Close count ∷ [] else []) ≡ front ++ rest
    → filter is_kept front ≡ front
front_kept number count closed clocks [] rest is = refl
front_kept number count true [] (x ∷ front) rest is = grind (arith, front_kept number count false [] front rest)
front_kept number count false [] (x ∷ front) rest is = cc is
front_kept number count closed (clock ∷ clocks) (x ∷ front) rest is =
    grind (arith, front_kept (number + 1) count closed clocks front rest)

pub emissions_kept : (n : ℕ) (watched : NumberSet) (flag : Flag) (c : Computation) (p : ℕ) (front rest : List Note)
    → AreEmissions n watched flag c p (front ++ rest) → filter is_kept front ≡ front
emissions_kept n watched flag c p front rest are =
    front_kept 0 (length are.clocks) (is_closed c p) are.clocks front rest (sym are.notes_are)

-- what a process emits before a close is snapshots alone
prefix_counts : (number : ℕ) (clocks : List (List ℕ)) (front rest : List Note)
    → snapshots_from number clocks ≡ front ++ rest →
    (length front ≡ length (snapshot_clocks front)) × (list_any is_last front ≡ false)
prefix_counts number clocks [] rest is = (refl, refl)
prefix_counts number [] (x ∷ front) rest is = cc is
prefix_counts number (clock ∷ clocks) (x ∷ front) rest is = grind (arith, prefix_counts (number + 1) clocks front rest)

-- a prefix of notes in turn is in turn
pub prefix_in_turn : (front rest : List Note) → AreInTurn (front ++ rest) → AreInTurn front
prefix_in_turn front rest turn before after next is = grind (arith, append_assoc)

-- and so are the notes put of a lost process with the mark that counts them
pub mark_in_turn : (n : ℕ) (watched : NumberSet) (flag : Flag) (c : Computation) (p : ℕ) (put rest : List Note)
    → AreEmissions n watched flag c p (put ++ rest) → is_closed c p ≡ false
    → AreInTurn (put ++ note.Lost (length put) ∷ [])
mark_in_turn n watched flag c p put rest are without_close =
    let snapshots : snapshots_from 0 are.clocks ≡ put ++ rest = sym (append-nil (snapshots_from 0 are.clocks))
    ∙ rw without_close at (sym are.notes_are) in
    let counts = prefix_counts 0 are.clocks put rest snapshots in
    AreInTurn-push put (note.Lost (length put)) (prefix_in_turn put rest
    (emissions_in_turn n watched flag c p (put ++ rest) are)) (record { place = counts.0; still_open = counts.1 })

-- a close mark that ends the notes that are kept stands among all
close_among : (notes before : List Note) (count : ℕ) → filter is_kept notes ≡ before ++ note.Close count ∷ [] →
    (earlier : List Note) × (later : List Note) × (notes ≡ earlier ++ note.Close count ∷ later)
close_among [] [] count is = cc is
close_among [] (x ∷ before) count is = cc is
close_among (note.Lost number ∷ notes) before count is =
    let (earlier, later, there) = close_among notes before count is in
    (note.Lost number ∷ earlier, later, ap (λ l. note.Lost number ∷ l) there)
close_among (x ∷ notes) [] count is = ([], notes, grind arith)
close_among (x ∷ notes) (y ∷ before) count is =
    let (earlier, later, there) = close_among notes before count (grind arith) in
    (x ∷ earlier, later, ap (λ l. x ∷ l) there)

module _ (n : ℕ) (watched : NumberSet) (items : List Item)
    (turn : (p : ℕ) → p < n → AreInTurn (notes_taken p items)) where
  -- all is drained of items without marks where it is of all
  drained_without : IsDrained n (without_lost items) → IsDrained n items
  drained_without drained p within =
      let (count, before, is) = drained p within in
      let (earlier, later, there) = close_among (notes_taken p items) before count (sym (notes_without p items) ∙ is) in
      let last = nothing_follows earlier later count (subst AreInTurn there (turn p within)) in
      (count, earlier, there ∙ ap (λ l. earlier ++ note.Close count ∷ l) last)

  drained_with : IsDrained n items → IsDrained n (without_lost items)
  drained_with drained p within =
      let (count, before, is) = drained p within in (
        count,
        filter is_kept before,
        notes_without p items ∙ ap (filter is_kept) is ∙ filter-append is_kept before (note.Close count ∷ []),
      )

  cut_without : (cut : Intervals) → IsCutByClocks n watched items cut → IsCutByClocks n watched (without_lost items) cut
  cut_without cut is = grind (arith, clocks_without)

  cut_with : (cut : Intervals) → IsCutByClocks n watched (without_lost items) cut → IsCutByClocks n watched items cut
  cut_with cut is = grind (arith, clocks_without)

  -- the report of items is that of these items without marks
  pub report_without : (report : Report) → IsReportByClocks n watched items report
      → IsReportByClocks n watched (without_lost items) report
  report_without (Found cut) is =
      record { one = cut_without cut is.one; below = λ other one. is.below other (cut_with other one) }
  report_without Nothing is = (λ cut one. is.0 cut (cut_with cut one), drained_with is.1)
  report_without Undecided is = (λ cut one. is.0 cut (cut_with cut one), λ drained. is.1 (drained_without drained))

  pub rises_with : ClocksRise n (without_lost items) → ClocksRise n items
  rises_with rise p within = rw (← clocks_without p items) (rise p within)
