use Rattle.std.proofs.Common.{◌≡◌, ℕ, ◌<◌, ◌∷◌, ◌++◌, true, List, [], ap, ◌∙◌, arith}
use Rattle.std.specs.List.{list_any}
use Rattle.std.proofs.lemmas.List.Folds.{list_any-append}
use Rattle.wcp_clock.specs.Notes.{is_lost}
use Rattle.wcp_clock.specs.declared.note.Item.{Item}
use Rattle.wcp_clock.specs.declared.note.Note.{Note}
use Rattle.wcp_clock.specs.declared.note.Note.TheVariants.{Lost}
use Rattle.wcp_model.specs.Report.{notes_taken}
use Rattle.wcp_queue.specs.Checker.{CheckerState, processes, lost_of, taken_of, StandsForItems}
use Rattle.wcp_queue.specs.Panel.{TakesOrIsStarved}
use Rattle.wcp_queue.proofs.NotesTaken.{notes_taken-push_same}
use Rattle.wcp_c.specs.Checkers.{lost_item}

-- a list that ends with the mark of a lost process has one
ends_lost : (notes : List Note) (count : ℕ) → list_any is_lost (notes ++ Lost count ∷ []) ≡ true
ends_lost notes count = grind (arith, list_any-append)

-- a process whose mark was taken is lost
pub lost_now : (old new : CheckerState) (p : ℕ) → p < processes new → TakesOrIsStarved old new (lost_item old p)
    → (items : List Item) → StandsForItems old items → lost_of new p ≡ true
lost_now old new p within takes items stands =
    (takes.stands items stands).lost p within
    ∙ ap (list_any is_lost) (notes_taken-push_same items (lost_item old p) p (grind arith))
    ∙ ends_lost (notes_taken p items) (taken_of old p)
