use Rattle.trace_questions.proofs.Words.{◌≡◌, map, drop, name_worded}
use Rattle.trace_condition.specs.Asked.{are_distinct}
use Rattle.trace_questions.proofs.wording.are_distinct.Given as goal

abbrev pub invariant-loop-at : goal.invariant-loop-at
invariant-loop-at l =
    are_distinct (map name_worded (drop l.at l.wordings)) ≡ are_distinct (map name_worded l.wordings)
