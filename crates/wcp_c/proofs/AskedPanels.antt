-- The questions of a panel take an item.
use Rattle.std.proofs.Common.{ℕ, ◌<◌, Bool, false, List, [], ◌∷◌, length, get_or, slice_index, slice_index_or, refl}
use Rattle.std.proofs.Common.{sym, ap}
use Rattle.std.proofs.Common.{◌∙◌, arith}
use Rattle.std.proofs.lemmas.List.Elements.{All-cons, All-nil}
use Rattle.std.specs.Prelude.{All}
use Rattle.wcp_clock.specs.declared.note.Item.{Item}
use Rattle.wcp_queue.specs.Checker.{CheckerState, MayTake}
use Rattle.wcp_queue.specs.Panel.{question_at, HaveTakenAlike, MayAllTake}

-- what one may take, so may one that has taken alike
may_take_alike : (one other : CheckerState) (item : Item) → HaveTakenAlike one other → MayTake one item
    → MayTake other item
may_take_alike one other item alike may = record {
  from = omega (arith, may.from, alike.processes);
  place = may.place ∙ ap (λ (taken : List ℕ). slice_index taken item.from) (sym alike.taken);
  still_open = ap (λ (marks : List Bool). slice_index_or marks item.from false) alike.closed ∙ may.still_open;
  not_lost = ap (λ (marks : List Bool). slice_index_or marks item.from false) alike.lost ∙ may.not_lost;
}

pub all_may_take : (panel : List CheckerState) (item : Item) → All (HaveTakenAlike (question_at panel 0)) panel
    → MayTake (question_at panel 0) item → MayAllTake panel item
all_may_take panel item alike may k d within =
    may_take_alike (question_at panel 0) (get_or panel k d) item (alike k d within) may

pub some_question : (panel : List CheckerState) (item : Item) → MayTake (question_at panel 0) item → 0 < length panel
some_question [] item may = absurd (omega (arith, may.from))
some_question (first ∷ panel) item may = omega arith

-- one question has taken as it has itself
pub alike_itself : (checker : CheckerState) → All (HaveTakenAlike checker) (checker ∷ [])
alike_itself checker = All-cons (HaveTakenAlike checker) checker []
    (record { processes = refl; taken = refl; closed = refl; lost = refl }) (All-nil (HaveTakenAlike checker))
