use Rattle.std.proofs.Common.{◌≡◌, ℕ, None, Option, slice_index, ◌∷◌, ◌++◌, ◌+◌, [], arith, subst, ap, length, ◌∙◌}
use Rattle.std.proofs.lemmas.List.{get_or_default, length_push}
use Rattle.trace_explain.specs.Left.{IsKnownLine, Left, left_at}
use Rattle.trace_explain.proofs.Eliminated.{none_left}
use Rattle.trace_explain.proofs.Told.{push_each}
use Rattle.trace_explain.proofs.held.known_lines.Goals as goal

pub loop-place-preserved : goal.loop-place-preserved
loop-place-preserved c =
    let old = c.loop-place.knows.items in
    let place = c.loop-place.place in
    let left = c.args.left.now in
    let items : c.push.new.self.items ≡ old ++ c.known_line.result ∷ [] = c.in_ok-push.ensures.items in
    let many : length old ≡ place = c.loop-place.invariant.as_many in
    let number : c.number.result ≡ slice_index c.args.event.now.numbers place = c.number.ensures in
    let read : c.index-left-place.result ≡ left_at left place = c.index-left-place.is
    ∙ get_or_default left place c.index-left-place.result none_left c.loop-place-test.true in
    let here : IsKnownLine (left_at left place).host.events place (slice_index c.args.event.now.numbers place)
    c.known_line.result =
    subst (λ (one : Left). IsKnownLine one.host.events place (slice_index c.args.event.now.numbers place)
    c.known_line.result) read (subst (λ (n : ℕ). IsKnownLine c.index-left-place.result.host.events place n
    c.known_line.result) number c.known_line.ensures) in
    record {
      as_many = ap length items ∙ length_push old c.known_line.result ∙ ap (λ (n : ℕ). n + 1) many;
      each = λ q below. rw items (push_each
          (λ (p : ℕ) (line : Option ℕ). IsKnownLine (left_at left p).host.events p (slice_index c.args.event.now.numbers p) line)
          old c.known_line.result None (λ p inside. c.loop-place.invariant.each p (omega arith)) (rw many here) q
          (omega arith));
    }
