use Rattle.std.proofs.Math.ListN.{set}
use Rattle.std.proofs.lemmas.List.{length-set}
use Rattle.trace_log.proofs.Words.{◌≡◌, ◌∙◌, ◌<◌, ◌+◌, length, sym, subst, true, arith, add-one, are_distinct, take}
use Rattle.trace_log.specs.Fields.{IsNamed}
use Rattle.trace_log.specs.Look.{lead_at}
use Rattle.trace_log.specs.SeenParts.{seen_parts}
use Rattle.trace_log.proofs.Passing.{lone_byte}
use Rattle.trace_log.proofs.PlainEvents.{HasFound, any_named, distinct-push, first_names, found-next, names-next}
use Rattle.trace_log.proofs.PlainEvents.{spells_parts}
use Rattle.trace_log.proofs.plain_event.plain_event.Goals as goal

pub whole-requires : goal.whole-requires
whole-requires c =
    let before = first_names c.loop-count.count c.loop-count.names in
    let name = c.in_ok-name.name.now in
    let found = c.in_ok-found.found in
    let none = any_named name (take c.loop-count.count c.loop-count.names) ∙ sym c.is_among.ensures
    ∙ c.if-is_among.false in
    let named = subst (λ l. IsNamed l name c.loop-count.rest.now c.in_ok-name.value.now) c.lead_at.ensures
    c.in_ok-name.ensures in
    spells_parts c.args.line.now c.in_ok-found.after.now 44 _ (seen_parts found)
    (found-next c.args.line.now c.loop-count.rest.now c.in_ok-name.value.now c.in_ok-found.after.now
    (lead_at c.loop-count.count) before name (seen_parts c.loop-count.parts) (seen_parts found)
    c.loop-count.invariant.1 named c.in_ok-found.ensures)
    (distinct-push before name c.loop-count.invariant.2 none)
    (lone_byte c.in_ok-found.after.now 125 c.if-rest-eq1.true c.if-rest-eq125.true)

pub loop-count-preserved : goal.loop-count-preserved
loop-count-preserved c =
    let names = c.loop-count.names in
    let count = c.loop-count.count in
    let before = first_names count names in
    let name = c.in_ok-name.name.now in
    let line = c.args.line.now in
    let after = c.in_ok-found.after.now in
    let found = seen_parts c.in_ok-found.found in
    let none = any_named name (take count names) ∙ sym c.is_among.ensures ∙ c.if-is_among.false in
    let named = subst (λ l. IsNamed l name c.loop-count.rest.now c.in_ok-name.value.now) c.lead_at.ensures
    c.in_ok-name.ensures in
    let within : count < length names = omega (arith, c.loop-count.invariant.0) in
    let more = sym (names-next names count c.in_ok-name.name within) in
    let next = found-next line c.loop-count.rest.now c.in_ok-name.value.now after (lead_at count) before name
    (seen_parts c.loop-count.parts) found c.loop-count.invariant.1 named c.in_ok-found.ensures in (
      length-set names count c.in_ok-name.name ∙ c.loop-count.invariant.0,
      subst (λ k. HasFound line after (lead_at k) (first_names (count + 1) (set names count c.in_ok-name.name)) found)
          (sym (add-one count))
          (subst (λ ns. HasFound line after 44 ns found) more next),
      subst (λ ns. are_distinct ns ≡ true) more (distinct-push before name c.loop-count.invariant.2 none),
    )
