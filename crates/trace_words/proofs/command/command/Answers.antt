use Rattle.trace_words.proofs.OptionWords.{◌∙◌, ap, ap₂, IfOk-weaker, with_rule}
use Rattle.trace_words.specs.Options.{answer_rules, log_rules, question_rules, spelling_rules, with_rules}
use Rattle.trace_words.proofs.command.command.Goals as goal

pub returns : goal.returns
returns c =
    let asking = c.in_ok-command.ensures ∙ ap (with_rules question_rules) c.named.ensures in
    let reading = c.in_ok-command-2.ensures ∙ ap (with_rules log_rules) asking in
    let spelling = c.in_ok-command-3.ensures ∙ ap (with_rules spelling_rules) reading in
    let showing = c.in_ok-command-4.ensures ∙ ap (with_rules answer_rules) spelling in
    IfOk-weaker c.arg.result _ _
    (λ r adds. adds.shape c.file_argument.ensures.local ∙ ap₂ with_rule showing c.file_argument.ensures.rule)
    c.arg.ensures
