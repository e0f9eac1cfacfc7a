use Rattle.trace_condition.proofs.Words.{◌≡◌, None, Some, ap, option_map, ◌∙◌, seen_word, seen_rule}
use Rattle.trace_condition.proofs.Sayings.{ended_by}
use Rattle.trace_condition.proofs.saying.rule_of.Goals as goal

pub returns-in_err-until-in-From : goal.returns-in_err-until-in-From
returns-in_err-until-in-From c =
    let ended = ended_by _ (seen_word c.args.word.now) c.until_of.result c.until_of.ensures in
    let none : c.until_of.result ≡ None = c.in_err-until-in-From.was in
    rw c.in-From.is (ap (option_map seen_rule) c.from_residual.ensures ∙ (rw none at ended))

pub returns-in_ok-until-in-From : goal.returns-in_ok-until-in-From
returns-in_ok-until-in-From c =
    let ended = ended_by _ (seen_word c.args.word.now) c.until_of.result c.until_of.ensures in
    let found : c.until_of.result ≡ Some c.in_ok-until-in-From.until = c.in_ok-until-in-From.was in
    rw c.in-From.is (rw found at ended)
