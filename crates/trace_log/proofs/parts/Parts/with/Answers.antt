use Rattle.trace_log.proofs.Words.{◌∙◌, sym, bytes_eq-Decides}
use Rattle.trace_log.specs.SeenParts.{seen_parts}
use Rattle.trace_log.proofs.PlainEvents.{finds_host, finds_place, finds_text, none_there}
use Rattle.trace_log.proofs.parts.Parts.with.Goals as goal

pub returns-then-eq : goal.returns-then-eq
returns-then-eq c =
    let named = (bytes_eq-Decides c.args.name.now _).0 (sym c.eq.ensures ∙ c.if-eq.true) ∙ c.as_slice.ensures in
    let blank = c.after_blank-value.ensures in
    finds_host c.args.name.now c.in_ok-host.host.now c.args.text.now blank.0 c.after_blank-value.result.now
    c.in_ok-host.rest.now (seen_parts c.args.self) named blank.1 blank.2 c.in_ok-host.ensures

pub returns-then-eq-2 : goal.returns-then-eq-2
returns-then-eq-2 c =
    let named = (bytes_eq-Decides c.args.name.now _).0 (sym c.eq-2.ensures ∙ c.if-eq-2.true) ∙ c.as_slice-2.ensures in
    let blank = c.after_blank-value.ensures in
    finds_text c.args.name.now c.in_ok-said.said.now c.args.text.now blank.0 c.after_blank-value.result.now
    c.in_ok-said.rest.now (seen_parts c.args.self) named blank.1 blank.2 c.in_ok-said.ensures

pub returns-then-eq-3 : goal.returns-then-eq-3
returns-then-eq-3 c =
    let named = (bytes_eq-Decides c.args.name.now _).0 (sym c.eq-3.ensures ∙ c.if-eq-3.true) ∙ c.as_slice-3.ensures in
    let blank = c.after_blank-value.ensures in
    finds_place c.args.name.now c.in_ok-clock.clock.now c.args.text.now blank.0 c.after_blank-value.result.now
    c.in_ok-clock.rest.now (seen_parts c.args.self) named
    (none_there c.args.self.place (sym c.is_some.ensures ∙ c.if-is_some.false)) blank.1 blank.2 c.in_ok-clock.ensures
