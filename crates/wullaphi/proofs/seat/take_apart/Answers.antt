use Rattle.std.proofs.Common.{◌≡◌, ◌∷◌, [], ◌++◌, All, Some, append_assoc, arith, map, sym, ap, subst, ◌∙◌}
use Rattle.std.proofs.lemmas.List.Elements.{All-tail}
use Rattle.std.proofs.lemmas.List.{map_push}
use Rattle.std.specs.Prelude.{IsSome}
use Rattle.std.specs.Vec.Iter.{into_iter_items}
use Rattle.wullaphi.proofs.Seating.{none_left}
use Rattle.wullaphi.specs.declared.seat.SeatEnd.{SeatEnd}
use Rattle.wullaphi.proofs.seat.take_apart.Goals as goal

pub loop-end-preserved : goal.loop-end-preserved
loop-end-preserved g c =
    let its : SeatEnd _ → Type 0 = λ end. IsSome end.probe in
    let old = c.loop-end.invariant in
    let end = c.in-Some.end in
    let probes = c.loop-end.probes.items in
    let next : into_iter_items c.loop-end.end-iterator ≡ end ∷ into_iter_items c.next.new.self =
    c.in-Some.ensures.steps.0 in
    record {
      whole = append_assoc c.loop-end.yielded (end ∷ []) (into_iter_items c.next.new.self)
          ∙ ap (λ ends. c.loop-end.yielded ++ ends) (sym next)
          ∙ old.whole;
      rest = All-tail its end _ (subst (All its) next old.rest);
      probes = map_push (λ (e : SeatEnd _). e.probe) c.loop-end.yielded end
          ∙ ap (λ ps. ps ++ end.probe ∷ []) old.probes
          ∙ ap (λ p. map Some probes ++ p ∷ []) c.in-Some-probe.is
          ∙ sym (map_push Some probes c.in-Some-probe.probe)
          ∙ ap (map Some) (sym c.in_ok-push.ensures.items);
      answers = map_push (λ (e : SeatEnd _). e.answer) c.loop-end.yielded end
          ∙ ap (λ answers. answers ++ end.answer ∷ []) old.answers
          ∙ sym c.in_ok-push-2.ensures.items;
    }

pub loop-end-init : goal.loop-end-init
loop-end-init g c =
    let its : SeatEnd _ → Type 0 = λ end. IsSome end.probe in
    let same = c.into_iter-end-iterator.ensures.into_iter_gives.0 in
    record {
      whole = same;
      rest = subst (All its) (sym same) c.requires;
      probes = ap (map Some) (sym c.in_ok-probes.ensures.items);
      answers = sym c.in_ok-answers.ensures.items;
    }

pub returns-clause-probes : goal.returns-clause-probes
returns-clause-probes g c =
    let loop = c.loop-end in
    ap (map (λ (e : SeatEnd _). e.probe)) (sym (none_left loop.yielded (into_iter_items loop.end-iterator)
    loop.invariant.whole (omega (arith, c.in-None.ensures.steps.0)))) ∙ loop.invariant.probes

pub returns-clause-answers : goal.returns-clause-answers
returns-clause-answers g c =
    let loop = c.loop-end in
    ap (map (λ (e : SeatEnd _). e.answer)) (sym (none_left loop.yielded (into_iter_items loop.end-iterator)
    loop.invariant.whole (omega (arith, c.in-None.ensures.steps.0)))) ∙ loop.invariant.answers
