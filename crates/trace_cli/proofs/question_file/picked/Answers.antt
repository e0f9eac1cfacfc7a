use Rattle.std.proofs.Common.{◌≡◌}
use Rattle.trace_asking.specs.declared.question.Question.{Question}
use Rattle.trace_asking.specs.Seeking.{IsAskable}
use Rattle.trace_cli.proofs.Picked.{all_alone, of_each, picks_named}
use Rattle.trace_cli.proofs.question_file.picked.Goals as goal

pub returns-clause-picks : goal.returns-clause-picks
returns-clause-picks c =
    picks_named c.in-Some.name c.args.options.now c.args.questions.items c.in_ok-alone.field-0.items
    c.in-Some-place_named.place c.swap_remove-question.result c.in-Some.is
    (rw c.deref.ensures.value at c.in-Some-place_named.ensures)
    c.swap_remove-question.ensures.value c.in_ok-alone.ensures

pub returns-clause-have : goal.returns-clause-have
returns-clause-have c =
    all_alone (λ (question : Question). IsAskable question.subject) c.swap_remove-question.result
    c.in_ok-alone.field-0.items c.in_ok-alone.ensures
    (of_each (λ (question : Question). IsAskable question.subject) c.args.questions.items c.in-Some-place_named.place
    c.swap_remove-question.result c.requires
    (rw c.deref.ensures.value at c.in-Some-place_named.ensures.within) c.swap_remove-question.ensures.value)

pub returns-clause-why : goal.returns-clause-why
returns-clause-why c asks =
    all_alone (λ (question : Question). question.why ≡ c.args.options.now.explain) c.swap_remove-question.result
    c.in_ok-alone.field-0.items c.in_ok-alone.ensures
    (of_each (λ (question : Question). question.why ≡ c.args.options.now.explain) c.args.questions.items
    c.in-Some-place_named.place c.swap_remove-question.result asks
    (rw c.deref.ensures.value at c.in-Some-place_named.ensures.within)
    c.swap_remove-question.ensures.value)
