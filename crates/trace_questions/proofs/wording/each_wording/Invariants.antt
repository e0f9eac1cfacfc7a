use Rattle.trace_questions.proofs.Words.{◌≡◌, map, take, Some, all_read, wording_of, view, seen_wording}
use Rattle.trace_questions.proofs.wording.each_wording.Given as goal

abbrev pub invariant-loop-value : goal.invariant-loop-value
invariant-loop-value l =
    all_read wording_of (map view (take l.value-index l.value-items)) ≡ Some (map seen_wording l.wordings.items)
