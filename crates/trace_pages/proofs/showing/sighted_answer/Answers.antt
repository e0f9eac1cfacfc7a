use Rattle.std.proofs.Common.{[], ◌∷◌, ◌∙◌, List, ap, map, subst}
use Rattle.trace_detect.specs.Told.{told_by}
use Rattle.trace_pages.specs.declared.answered.Answered.{Answered}
use Rattle.trace_pages.specs.Pages.{IsPageOf, Said, page_status, said_by}
use Rattle.trace_pages.proofs.Sighted.{status_shown}
use Rattle.trace_pages.proofs.showing.sighted_answer.Goals as goal

pub returns-clause-shows : goal.returns-clause-shows
returns-clause-shows g c = record {
  page = c.in_ok-model.model;
  says = subst (λ (said : Said). IsPageOf (said ∷ []) c.args.sighting.behind c.in_ok-model.model) c.in_ok-answered.ensures
      (subst (λ (those : List Answered). IsPageOf (map said_by those) c.args.sighting.behind c.in_ok-model.model)
      c.from_ref.ensures.value c.in_ok-model.ensures);
  is_drawn = c.in_ok-text.ensures;
}

pub returns-clause-status : goal.returns-clause-status
returns-clause-status g c =
    c.status_of_shown-status.ensures ∙ ap (λ said. page_status said.answer) c.in_ok-answered.ensures
    ∙ status_shown (told_by c.args.sighting.answer.answer)
