use Rattle.std.proofs.Common.{codes}
use Rattle.trace_log.proofs.Words.{◌∙◌, ap, sym, subst, option_map, value_view, string_bytes}
use Rattle.trace_log.specs.declared.fault.LogFaultKind.TheVariants as kind
use Rattle.trace_log.specs.Kept.{KeepsEvent, KeepsStamp, event_of_json, have_distinct_names, stamp_of_value}
use Rattle.trace_log.proofs.Binds.{asked}
use Rattle.trace_log.proofs.Stamps.{values_distinct, member-distinct, json_parts, event_of_stamp}
use Rattle.trace_log.proofs.line.json_kept.Goals as goal

pub value_kept-requires : goal.value_kept-requires
value_kept-requires c =
    let distinct = asked c.args.distinct kind.Clock (sym c.ask.ensures ∙ c.in_ok-ask.was) in
    let value = value_view c.args.value.now in
    ap have_distinct_names c.get.ensures ∙ values_distinct _ (λ json is.
    member-distinct (codes "clock") value json (c.requires distinct) is)

pub returns-clause-event : goal.returns-clause-event
returns-clause-event c earlier kept =
    let distinct = asked c.args.distinct kind.Clock (sym c.ask.ensures ∙ c.in_ok-ask.was) in
    let value = value_view c.args.value.now in
    let host = sym c.text_at.ensures ∙ ap (λ o. option_map (λ t. t.now) o) c.in-Some.is in
    let text = sym c.text_at-2.ensures ∙ ap (λ o. option_map (λ t. t.now) o) c.in-Some-text_at.is in
    let parts = json_parts earlier c.in-Some.host.now c.in-Some-text_at.text.now value host text in
    let stamp = subst (λ o. KeepsStamp earlier (stamp_of_value earlier c.in-Some.host.now o) c.value_kept.result
    c.value_kept.new.hosts) c.get.ensures (c.value_kept.ensures.stamp earlier kept) in
    subst (λ judged. KeepsEvent earlier judged c.value_kept.result c.value_kept.new.hosts (string_bytes c.put.new.said))
    (sym (ap (λ b. event_of_json earlier b value) distinct ∙ parts))
    (event_of_stamp _ earlier c.value_kept.result c.value_kept.new.hosts c.in-Some-text_at.text.now
    (string_bytes c.put.new.said) c.in_ok-put.ensures stamp)
