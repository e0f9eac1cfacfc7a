use Rattle.std.proofs.Common.{◌≡◌, ℕ, ◌++◌, List, map, take, drop}
use Rattle.std.specs.Prelude.{All}
use Rattle.std.specs.List.{flat_map}
use Rattle.wcp_queue.specs.Checker.{CheckerState, IsSoundChecker}
use Rattle.wcp_queue.specs.Parts.{state_of}
use Rattle.wcp_saved.specs.Watches.{IsQuestionInRange, question_words, questions_words}
use Rattle.wcp_saved.proofs.watch_reading.take_questions.Given as goal

abbrev pub invariant-loop : goal.invariant-loop
invariant-loop l = (spelled : List CheckerState) (behind : List ℕ) → All IsSoundChecker spelled
    → All IsQuestionInRange spelled
    → l.words ≡ questions_words spelled ++ behind → (map state_of l.questions.items ≡ take l.counter spelled)
    × (l.rest ≡ flat_map question_words (drop l.counter spelled) ++ behind)
