use Rattle.std.proofs.Common.{arith}
use Rattle.std.proofs.lemmas.Grind.{common_steps}
use Rattle.std.proofs.lemmas.List.{append_assoc, length-map, take_all}
use Rattle.std.proofs.lemmas.List.Elements.{All-more, All-map}
use Rattle.wcp_queue.specs.declared.checker.parts.CheckerParts.{CheckerParts}
use Rattle.wcp_queue.specs.Parts.{state_of}
use Rattle.wcp_saved.specs.Watches.{IsQuestionInRange, question_words}
use Rattle.wcp_saved.proofs.Spelled.{written_more_seen}
use Rattle.wcp_saved.proofs.watch_writing.put_questions.Goals as goal

pub loop-parts-preserved : goal.loop-parts-preserved
loop-parts-preserved c =
    let so_far = c.loop-parts.invariant in
    let wrote = c.in_ok-put_question.ensures in
    let questions = c.args.questions.now in
    let place = c.loop-parts.parts-index in
    let parts = c.parts-item.result in
    record {
      words = written_more_seen question_words state_of c.push.new.self.items c.loop-parts.words.items
          c.put_question.new.words.items questions place parts c.loop-parts-test.true so_far.words
          (rw (← c.parts-item.is) wrote.words);
      range = All-more (λ (one : CheckerParts). IsQuestionInRange (state_of one)) questions place parts
          c.loop-parts-test.true
          so_far.range (rw (← c.parts-item.is) wrote.range);
    }

pub returns : goal.returns
returns c =
    let questions = c.args.questions.now in
    let all = take_all c.loop-parts.parts-index questions c.loop-parts-test.false in
    record {
      words = grind (arith, common_steps, take_all, append_assoc, length-map);
      range = All-map IsQuestionInRange state_of questions (rw all at c.loop-parts.invariant.range);
    }
