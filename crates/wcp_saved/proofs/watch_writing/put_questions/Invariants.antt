use Rattle.std.proofs.Common.{◌≡◌, ◌++◌, map, take}
use Rattle.std.specs.Prelude.{All}
use Rattle.std.specs.List.{flat_map}
use Rattle.wcp_queue.specs.Parts.{state_of}
use Rattle.wcp_saved.specs.Watches.{IsQuestionInRange, question_words}
use Rattle.wcp_saved.proofs.watch_writing.put_questions.Given as goal

abbrev pub invariant-loop-parts : goal.invariant-loop-parts
invariant-loop-parts l = record {
  words : l.words.items
      ≡ l.initial.words.items ++ flat_map question_words (map state_of (take l.parts-index l.questions));
  range : All (λ parts. IsQuestionInRange (state_of parts)) (take l.parts-index l.questions);
}
