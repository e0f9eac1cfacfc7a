use Rattle.std.proofs.Common.{rules, ◌≡◌, ◌∙◌, ◌<◌, length, arith, string_bytes, subst, List, ℕ}
use Rattle.json.specs.Value.{value_view}
use Rattle.trace_log.specs.Event.{most_bytes}
use Rattle.trace_rewrite.specs.Lines.{event_json}
use Rattle.wullaphi_record.specs.Recorded.{recorded_at}
use Rattle.wullaphi_record.proofs.Lines.{json_is}
use Rattle.wullaphi_record.proofs.log.event_line.Goals as goal

pub returns-then-len-gt-MAX_LINE-clause-why : goal.returns-then-len-gt-MAX_LINE-clause-why
returns-then-len-gt-MAX_LINE-clause-why c =
    let all = c.args.records.now in
    let own = c.args.own.now in
    let named : c.as_str.result.now ≡ own.name = search rules in
    let said : c.as_str-2.result.now ≡ (recorded_at own.events c.args.at).text = search rules in
    let line : c.in_ok-line.line.items ≡ event_json c.as_str.result.now (value_view c.in_ok-clock.clock)
    c.as_str-2.result.now = c.in_ok-line.ensures.json in
    let long : most_bytes < length c.in_ok-line.line.items = search (rules, arith) in
    subst (λ (l : List ℕ). most_bytes < length l)
    (line ∙ json_is all own c.args.at c.deref-2.result.now _ _ _ (c.deref-2.ensures.value ∙ c.in_ok-numbers.ensures)
    c.in_ok-clock.ensures.value named said) long

pub returns-clause-line : goal.returns-clause-line
returns-clause-line c =
    let all = c.args.records.now in
    let own = c.args.own.now in
    let named : c.as_str.result.now ≡ own.name = search rules in
    let said : c.as_str-2.result.now ≡ (recorded_at own.events c.args.at).text = search rules in
    let line : string_bytes c.in-Ok.line ≡ event_json c.as_str.result.now (value_view c.in_ok-clock.clock)
    c.as_str-2.result.now = search rules in
    line ∙ json_is all own c.args.at c.deref-2.result.now _ _ _ (c.deref-2.ensures.value ∙ c.in_ok-numbers.ensures)
    c.in_ok-clock.ensures.value named said
