use Rattle.trace_questions.proofs.Words.{◌≡◌, map, take, Some, all_read, as_str, view, seen_texts}
use Rattle.trace_questions.proofs.keys.each_text.Given as goal

abbrev pub invariant-loop-value : goal.invariant-loop-value
invariant-loop-value l =
    all_read as_str (map view (take l.value-index l.value-items)) ≡ Some (seen_texts l.texts.items)
