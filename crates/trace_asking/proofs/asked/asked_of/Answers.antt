use Rattle.trace_asking.proofs.Words.{◌≡◌, Bool, false, [], ◌∷◌, take, arith, refl, map-append}
use Rattle.trace_asking.proofs.Words.{take_more}
use Rattle.std.proofs.lemmas.List.Elements.{All-push}
use Rattle.trace_asking.specs.declared.asked.Asked.{Asked}
use Rattle.trace_asking.specs.declared.asked.Stage.TheVariants as stage
use Rattle.trace_asking.specs.Asking.{IsWaiting, answered_in, is_answered}
use Rattle.trace_asking.proofs.Questions.{AreAsked-push}
use Rattle.trace_asking.proofs.asked.asked_of.Goals as goal

pub loop-question-preserved : goal.loop-question-preserved
loop-question-preserved c =
    let questions = c.args.questions.now in
    let place = c.loop-question.question-index in
    let question = c.question-item.result in
    let one : Asked = record { seeker = c.in_ok-new.field-0; stage = stage.Open } in
    let before = c.loop-question.asked.items in
    record {
      waiting = rw (take_more questions place question (omega arith), ← c.question-item.is, c.in_ok-push.ensures.items)
          (AreAsked-push (IsWaiting []) (take place questions) before question one c.loop-question.invariant.waiting
          c.in_ok-new.ensures);
      unanswered = rw (c.in_ok-push.ensures.items, map-append (λ a. is_answered a.stage) before (one ∷ []))
          (All-push (λ (answered : Bool). answered ≡ false) (answered_in before) false
          c.loop-question.invariant.unanswered refl);
    }
