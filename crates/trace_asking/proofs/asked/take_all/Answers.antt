use Rattle.trace_asking.proofs.Words.{◌∙◌, ◌<◌, ap, length, length-set, arith, get_or-set_other, map-set_same}
use Rattle.trace_log.specs.Turns.{seen_logged}
use Rattle.trace_asking.specs.Asking.{HasTakenOne, is_answered, question_at}
use Rattle.trace_asking.proofs.Questions.{any_of, can_take_open, each_more}
use Rattle.trace_asking.proofs.asked.take_all.Goals as goal

pub take-requires : goal.take-requires
take-requires c =
    let place = c.loop-place.place in
    let given = c.requires in
    let within : place < length given.questions = omega (arith, given.are.as_many) in
    let question = any_of given.questions place within in
    can_take_open (question_at given.questions place question) given.before c.index_mut.result.now
    (seen_logged c.args.logged.now)
    (rw (c.index_mut.ensures.value, c.loop-place.invariant.above place c.index_mut.result.now (omega arith))
    (given.are.each place question c.index_mut.result.now within)) given.follows given.few

pub loop-place-preserved : goal.loop-place-preserved
loop-place-preserved c =
    let old = c.loop-place.invariant in
    let now = c.loop-place.asked.items in
    let place = c.loop-place.place in
    let one = seen_logged c.args.logged.now in
    let found = c.index_mut.result.now in
    let taken = c.take.new.self in
    record {
      as_many = length-set now place taken ∙ old.as_many;
      answered = map-set_same (λ a. is_answered a.stage) now place taken found
          (c.in_ok-take.ensures.answered ∙ ap (λ a. is_answered a.stage) c.index_mut.ensures.value) ∙ old.answered;
      below = λ questions before are follows k a under question.
          let within : place < length questions = omega (arith, are.as_many, old.as_many) in
          each_more (λ k a. HasTakenOne before one (question_at questions k question) a) now place
          taken (omega (arith, old.as_many)) (λ k a lt. old.below questions before are follows k a lt question)
          (c.in_ok-take.ensures.takes (question_at questions place question) before
          (rw (c.index_mut.ensures.value, old.above place found (omega arith)) (are.each place question found within))
          follows) k a under;
      above = λ k a past. get_or-set_other now place k taken a (omega arith) ∙ old.above k a (omega arith);
    }
