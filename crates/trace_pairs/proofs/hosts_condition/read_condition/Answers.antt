use Rattle.std.proofs.Common.{ap, map}
use Rattle.trace_condition.specs.Rules.{map_rule}
use Rattle.trace_condition.specs.Conditions.{ReadsSaying}
use Rattle.trace_condition.proofs.Handed.{handed_on}
use Rattle.trace_condition.proofs.Conditions.{can_be_read, until_refused}
use Rattle.trace_pairs.specs.Words.{seen_hosts, seen_words}
use Rattle.trace_pairs.proofs.hosts_condition.read_condition.Goals as goal

pub returns-in_err-until-in-FromUntil : goal.returns-in_err-until-in-FromUntil
returns-in_err-until-in-FromUntil c =
    let from = c.in_ok-from-in-FromUntil.ensures in
    let read = rw from.0 at (can_be_read c.in_ok-from-in-FromUntil.from from.1) in
    let fault = c.in_err-until-in-FromUntil.field-0.0 in
    let refused = until_refused c.args.saying.now.hosts.now (seen_words c.args.saying.now.rule) _ _ fault
    (ap seen_words c.in-FromUntil.is) read c.in_err-until-in-FromUntil.ensures in
    handed_on (λ r. ReadsSaying (seen_hosts c.args.saying.now) r) c.from_residual-in_err-until-in-FromUntil.result
    fault c.from_residual-in_err-until-in-FromUntil.ensures refused
