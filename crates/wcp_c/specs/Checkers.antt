use Rattle.std.specs.Prelude.{◌≡◌, ◌==◌, ◌&&◌, ◌||◌, ◌⊎◌, ◌^◌, ◌<◌, ◌≢◌, ℕ, Bool, true, false, not, Option, Some}
use Rattle.std.specs.Prelude.{List, []}
use Rattle.std.specs.Prelude.{◌∷◌, All, length, nat_eq, nat_le, nat_lt, slice_get}
use Rattle.std.specs.FinSet as set
use Rattle.std.specs.List.{list_any}
use Rattle.wcp_clock.specs.ProcessNumbers.{NumberSet}
use Rattle.wcp_clock.specs.Notes.{place_of}
use Rattle.wcp_clock.specs.declared.note.Item.{Item}
use Rattle.wcp_clock.specs.declared.note.Note.{Note}
use Rattle.wcp_clock.specs.declared.note.Note.TheVariants.{Snap, Close, Lost}
use Rattle.wcp_model.specs.FirstReason.{first_reason}
use Rattle.wcp_model.specs.ReportByClocks.{ClocksRise, IsReportByClocks}
use Rattle.wcp_model.specs.declared.outcome.Report.{Report}
use Rattle.wcp_model.specs.declared.outcome.Report.TheVariants.{Found, Nothing, Undecided}
use Rattle.wcp_queue.specs.Checker.{CheckerState, processes, taken_of, closed_of, lost_of, StandsForItems}
use Rattle.wcp_queue.specs.Checker.{IsReportOfAnyClocks, IsReportOfStarved}
use Rattle.wcp_queue.specs.Panel.{watched_by, StandForItems}
use Rattle.wcp_c.specs.Answers.{done, in_use, no_memory, out_of_range, other_watch, ended, out_of_turn, found, nothing}
use Rattle.wcp_c.specs.Answers.{not_agreed, stranger, taken_already, undecided}
use Rattle.wcp_c.specs.Notes.{item_of, says_watched}
use Rattle.wcp_c.specs.Questions.{checkers_of, first_of, is_panel, watches}
use Rattle.wcp_c.specs.declared.handle.WcpChecker.{WcpChecker}
use Rattle.wcp_c.specs.declared.note.WcpNote.{WcpNote}
use Rattle.wcp_c.specs.declared.watching.Watching.{Watching}

-- The checker that a handle holds, if any.
abbrev pub checker_in : WcpChecker → Option Watching
checker_in handle = handle.held.checker

-- Whether the checker has taken a note of process p: a snapshot of this number; the mark with this count that ended it.
abbrev pub has_taken : CheckerState → ℕ → Note → Bool
has_taken checker p (Snap number clock) = nat_lt number (taken_of checker p)
has_taken checker p (Close count) = closed_of checker p && (count == taken_of checker p)
has_taken checker p (Lost count) = lost_of checker p && (count == taken_of checker p)

-- Whether process p has ended: it was closed, or lost.
abbrev pub has_ended : CheckerState → ℕ → Bool
has_ended checker p = closed_of checker p || lost_of checker p

-- Why a checker refuses a note: it is of a watch of another number of processes; it is of another watch; it says that
-- its process has no condition, and some question watches that process; it was taken before; the process has ended; or
-- the note is not the next of its process.
abbrev pub take_refusal : Watching → WcpNote → Option ℕ
take_refusal held note = first_reason
    ((not (note.processes == processes (first_of held.questions)), other_watch)
    ∷ (not (note.watch == held.watch), stranger)
    ∷ (not (says_watched note) && watches held.questions note.process, not_agreed)
    ∷ (has_taken (first_of held.questions) note.process (item_of note).note, taken_already)
    ∷ (has_ended (first_of held.questions) note.process, ended)
    ∷ (not (place_of (item_of note).note == taken_of (first_of held.questions) note.process), out_of_turn) ∷ [])

-- The mark that process p is lost, after what was taken of it.
abbrev pub lost_item : CheckerState → ℕ → Item
lost_item checker p = record { from = p; note = Lost (taken_of checker p) }

-- Why a process can't be lost: it is no process of the watch; it has ended; or more of its snapshots were taken than a
-- mark can count.
abbrev pub lose_refusal : CheckerState → ℕ → Option ℕ
lose_refusal checker p = first_reason
    ((nat_le (processes checker) p, out_of_range)
    ∷ (has_ended checker p, ended)
    ∷ (nat_le (2 ^ 32) (taken_of checker p), out_of_turn) ∷ [])

-- The number of a report.
abbrev pub report_number : Report → ℕ
report_number (Found cut) = found
report_number Nothing = nothing
report_number Undecided = undecided

-- What a question reports is right: exact where the clocks rise; where they may not, a cut that is found is one of
-- taken snapshots of which none precedes another by its clock. One that was starved, or took the mark of a lost
-- process, never reports that there is no cut.
pub record IsRightReport (checker : CheckerState) (report : Report) : Type 0 where
  pub exact : checker.starved ≡ false → (items : List Item) → StandsForItems checker items
      → ClocksRise (processes checker) items → IsReportByClocks (processes checker) checker.watched items report
  pub any_clocks : checker.starved ≡ false → (items : List Item) → StandsForItems checker items
      → IsReportOfAnyClocks (processes checker) checker.watched items report
  pub starved : checker.starved ≡ true → (items : List Item) → StandsForItems checker items
      → IsReportOfStarved (processes checker) checker.watched items report
  pub lost : (p : ℕ) → p < processes checker → lost_of checker p ≡ true → report ≢ Nothing

-- The watch stays, and so do the number of its processes and what each question watches.
pub record IsSameWatch (old new : Watching) : Type 0 where
  pub watch : new.watch ≡ old.watch
  pub processes : processes (first_of new.questions) ≡ processes (first_of old.questions)
  pub watched : watched_by (checkers_of new.questions) ≡ watched_by (checkers_of old.questions)

-- What is answered where no refusal comes: the note is taken, or there is no memory.
abbrev pub IsTaken : ℕ → Type 0
IsTaken answer = (answer ≡ done) ⊎ (answer ≡ no_memory)

-- What is answered where a checker is to be made.
abbrev pub IsMade : ℕ → Type 0
IsMade answer = (answer ≡ done) ⊎ (answer ≡ in_use) ⊎ (answer ≡ out_of_range) ⊎ (answer ≡ no_memory)

-- The interval of process p in the cut that the report names.
abbrev pub IsInCut : Report → ℕ → ℕ → Type 0
IsInCut (Found cut) p interval = slice_get cut p ≡ Some (Some interval)
IsInCut Nothing p interval = ⊥
IsInCut Undecided p interval = ⊥

-- A checker of the watch with this number, of so many processes, with a question for each of these sets of watched
-- ones, that has taken nothing, has no tag, and was never short of memory.
pub record IsNewChecker (held : Watching) (number n : ℕ) (sets : List NumberSet) (panel : Bool) : Type 0 where
  pub watch : held.watch ≡ number
  pub processes : All (λ checker. processes checker ≡ n) (checkers_of held.questions)
  pub watched : watched_by (checkers_of held.questions) ≡ sets
  pub empty : StandForItems (checkers_of held.questions) []
  pub no_tag : held.shelf ≡ []
  pub not_starved : All (λ checker. checker.starved ≡ false) (checkers_of held.questions)
  pub several : is_panel held.questions ≡ panel

-- The numbers name processes, and one at least.
pub record NamesProcesses (n : ℕ) (numbers : List ℕ) : Type 0 where
  pub some : 0 < length numbers
  pub each : All (λ number. number < n) numbers

-- The set of these numbers.
abbrev pub IsSetOf : List ℕ → NumberSet → Type 0
IsSetOf numbers members = (p : ℕ) → set.contains members p ≡ list_any (λ number. nat_eq number p) numbers
