use Rattle.std.proofs.Common.{[], ◌∷◌, arith, List, map, subst}
use Rattle.std.proofs.lemmas.List.{length-map}
use Rattle.trace_pages.specs.Pages.{IsPageOf, said_by}
use Rattle.trace_pages.specs.declared.answered.Answered.{Answered}
use Rattle.trace_pages.proofs.Statuses.{shows_first}
use Rattle.trace_pages.proofs.several.draw_first.Goals as goal

pub returns : goal.returns
returns g c =
    let shown = c.first_with_moment.ensures in
    let many = length-map c.args.answered.now said_by in
    shows_first c.args.answered.now c.first_with_moment.result c.index-answered-first_with_moment.result c.args.behind
    c.in_ok-model.model c.drawn.result shown (omega (arith, shown.within, many))
    (subst (λ (one : Answered). IsPageOf (said_by one ∷ []) c.args.behind c.in_ok-model.model)
    c.index-answered-first_with_moment.is
    (subst (λ (those : List Answered). IsPageOf (map said_by those) c.args.behind c.in_ok-model.model)
    c.from_ref.ensures.value c.in_ok-model.ensures))
    (rw c.requires.svg at c.drawn.ensures)
