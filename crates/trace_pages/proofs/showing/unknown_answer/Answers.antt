use Rattle.std.proofs.Common.{[], ◌∷◌, ◌∙◌, List, ap, map, subst}
use Rattle.trace_asking.specs.declared.reading_on.Behind.TheVariants.{Ended}
use Rattle.trace_text.specs.Waiting.{seen_waiting}
use Rattle.trace_pages.specs.declared.answered.Answered.{Answered}
use Rattle.trace_pages.specs.Pages.{IsPageOf, Said, page_status, said_by}
use Rattle.trace_pages.proofs.showing.unknown_answer.Goals as goal

pub returns-clause-shows : goal.returns-clause-shows
returns-clause-shows g c = record {
  waiting = seen_waiting c.in-Some.waiting;
  waits = rw c.in-Some.is at c.in_ok-waiting.ensures;
  shows = record {
    page = c.in_ok-model.model;
    says = subst (λ (said : Said). IsPageOf (said ∷ []) Ended c.in_ok-model.model) c.in_ok-answered.ensures
        (subst (λ (those : List Answered). IsPageOf (map said_by those) Ended c.in_ok-model.model)
        c.from_ref.ensures.value c.in_ok-model.ensures);
    is_drawn = c.in_ok-text.ensures;
  };
}

pub returns-clause-status : goal.returns-clause-status
returns-clause-status g c =
    c.status_of_shown-status.ensures ∙ ap (λ said. page_status said.answer) c.in_ok-answered.ensures
