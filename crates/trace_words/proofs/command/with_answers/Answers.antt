use Rattle.trace_words.proofs.OptionWords.{◌∙◌, ap, ap₂, IfOk-weaker, with_rule}
use Rattle.trace_words.proofs.command.with_answers.Goals as goal

pub returns : goal.returns
returns c =
    let first = c.in_ok-arg.ensures.shape c.flag_option.ensures.local
    ∙ ap (with_rule _) c.flag_option.ensures.rule in
    let second = c.in_ok-arg-2.ensures.shape c.flag_option-2.ensures.local
    ∙ ap₂ with_rule first c.flag_option-2.ensures.rule in
    let third = c.in_ok-arg-3.ensures.shape c.flag_option-3.ensures.local
    ∙ ap₂ with_rule second c.flag_option-3.ensures.rule in
    let fourth = c.in_ok-arg-4.ensures.shape c.flag_option-4.ensures.local
    ∙ ap₂ with_rule third c.flag_option-4.ensures.rule in
    let fifth = c.in_ok-arg-5.ensures.shape c.word_option.ensures.local
    ∙ ap₂ with_rule fourth c.word_option.ensures.rule in
    let sixth = c.in_ok-arg-6.ensures.shape c.flag_option-5.ensures.local
    ∙ ap₂ with_rule fifth c.flag_option-5.ensures.rule in
    let seventh = c.in_ok-arg-7.ensures.shape c.word_option-2.ensures.local
    ∙ ap₂ with_rule sixth c.word_option-2.ensures.rule in
    IfOk-weaker c.arg-8.result _ _
    (λ r adds. adds.shape c.flag_option-6.ensures.local ∙ ap₂ with_rule seventh c.flag_option-6.ensures.rule)
    c.arg-8.ensures
