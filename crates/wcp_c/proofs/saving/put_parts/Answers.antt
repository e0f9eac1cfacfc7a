use Rattle.std.proofs.Common.{◌≡◌, ◌<◌, ◌∙◌, length, map, subst, arith}
use Rattle.std.proofs.lemmas.List.Elements.{All-more}
use Rattle.wcp_queue.specs.Checker.{IsSoundChecker}
use Rattle.wcp_queue.specs.Panel.{no_question, question_at}
use Rattle.wcp_queue.specs.Parts.{state_of}
use Rattle.wcp_saved.proofs.Spelled.{taken_more, mapped_more}
use Rattle.wcp_c.proofs.saving.put_parts.Goals as goal

pub loop-question-preserved : goal.loop-question-preserved
loop-question-preserved c =
    let panel = c.args.panel.now in
    let place = c.loop-question.question in
    let own = c.in_ok-parts.field-0 in
    let same : state_of own ≡ question_at panel place = c.in_ok-parts.ensures.value ∙ c.in-Some.ensures.value in
    let within : place < length panel = omega (
      arith,
      c.loop-question-test.true,
      c.questions-question-end.ensures.value,
    ) in
    record {
      value = taken_more panel (map state_of c.loop-question.parts.items) (map state_of c.push.new.self.items) place
          no_question (state_of own) within c.loop-question.invariant.value same
          (mapped_more state_of c.loop-question.parts.items c.push.new.self.items own c.in_ok-push.ensures.items);
      sound = All-more IsSoundChecker panel place no_question within c.loop-question.invariant.sound
          (subst IsSoundChecker same c.in_ok-parts.ensures.sound);
    }
