use Rattle.std.proofs.lemmas.Grind.{common_steps}
use Rattle.trace_pairs.proofs.Words.{◌≡◌, ◌∙◌, ◌<◌, ap, arith, length, slice_index_or, sym, Text}
use Rattle.std.specs.Prelude.{string_bytes}
use Rattle.trace_log.specs.declared.event.Member.{Member}
use Rattle.trace_pairs.proofs.Clocking.{names_next}
use Rattle.trace_pairs.proofs.clocks.have_names.Goals as goal

pub loop-place-preserved : goal.loop-place-preserved
loop-place-preserved c =
    let clock = c.args.clock.now in
    let next = c.args.next.now in
    let i = c.loop-place.place in
    let d = c.index-clock-place.result in
    let e = c.index-next-place.result in
    let name : Member → Text = λ one. string_bytes one.name in
    let same : string_bytes (slice_index_or clock i d).name ≡ string_bytes (slice_index_or next i e).name =
    sym (ap name c.index-clock-place.is) ∙ c.has_name_of.ensures c.if-not-has_name_of.false
    ∙ ap name c.index-next-place.is in
    names_next clock next i d e (omega (arith, c.loop-place-test.true))
    (omega (arith, c.loop-place-test.true, c.if-clock-next.false)) c.loop-place.invariant same
