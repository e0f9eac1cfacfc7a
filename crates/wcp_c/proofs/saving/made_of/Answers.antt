use Rattle.std.proofs.Common.{◌≡◌, ◌∙◌, ◌∷◌, [], ◌++◌, get_or, map, take, refl, sym, ap, subst, arith}
use Rattle.std.specs.Prelude.{All}
use Rattle.std.proofs.lemmas.Bool.{false≢true}
use Rattle.std.proofs.lemmas.List.{get_or-map, length-map, map-append, take_all, take_more}
use Rattle.std.proofs.lemmas.List.Elements.{All-more, All-map}
use Rattle.wcp_queue.specs.Checker.{IsSoundChecker}
use Rattle.wcp_queue.specs.declared.checker.parts.CheckerParts.{CheckerParts}
use Rattle.wcp_queue.specs.Panel.{no_question}
use Rattle.wcp_queue.specs.Parts.{state_of}
use Rattle.wcp_c.proofs.LoadedHandles.{not_none, is_some}
use Rattle.wcp_c.proofs.saving.made_of.Goals as goal

pub returns-in_default-clause-sound : goal.returns-in_default-clause-sound
returns-in_default-clause-sound c = (
  λ no. absurd (false≢true no),
  λ all.
      let parts = c.args.parts.now in
      let place = c.loop-own.own-index in
      let within = c.loop-own-test.true in
      let here = get_or-map state_of parts place c.own-item.result no_question within in
      let sound = subst IsSoundChecker (here ∙ ap state_of (sym c.own-item.is))
      (all place no_question (omega (arith, within, length-map parts state_of))) in
      absurd (not_none c.in_ok-checker.field-0 c.in_default.is (c.in_ok-checker.ensures.sound.1 sound)),
)

pub loop-own-preserved : goal.loop-own-preserved
loop-own-preserved c =
    let parts = c.args.parts.now in
    let place = c.loop-own.own-index in
    let own = c.own-item.result in
    let made : c.in-Some.checker ≡ state_of own = rw c.in-Some.is at c.in_ok-checker.ensures.value in
    let next = take_more parts place own c.loop-own-test.true in
    record {
      value = c.in_ok-push.ensures.items ∙ ap (λ checkers. checkers ++ c.in-Some.checker ∷ [])
          c.loop-own.invariant.value
          ∙ ap (λ checker. map state_of (take place parts) ++ checker ∷ []) (made ∙ ap state_of c.own-item.is)
          ∙ sym (ap (map state_of) next ∙ map-append state_of (take place parts) (get_or parts place own ∷ []));
      sound = All-more (λ (one : CheckerParts). IsSoundChecker (state_of one)) parts place own c.loop-own-test.true
          c.loop-own.invariant.sound (subst (λ (one : CheckerParts). IsSoundChecker (state_of one)) c.own-item.is
          (c.in_ok-checker.ensures.sound.0 (is_some c.in_ok-checker.field-0 c.in-Some.checker c.in-Some.is)));
    }

pub returns-clause-sound : goal.returns-clause-sound
returns-clause-sound c =
    let parts = c.args.parts.now in
    let all = subst (All (λ (one : CheckerParts). IsSoundChecker (state_of one)))
    (take_all c.loop-own.own-index parts c.loop-own-test.false) c.loop-own.invariant.sound in
    (λ _. All-map IsSoundChecker state_of parts all, λ _. refl)
