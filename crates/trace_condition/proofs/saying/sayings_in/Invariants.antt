use Rattle.trace_condition.proofs.Words.{◌≡◌, map, take, Some, saying_by, all_read, seen_texts, seen_saying, kind_rule}
use Rattle.trace_condition.proofs.saying.sayings_in.Given as goal

abbrev pub invariant-loop-text : goal.invariant-loop-text
invariant-loop-text l =
    all_read (saying_by (kind_rule l.kind)) (seen_texts (take l.text-index l.texts))
    ≡ Some (map seen_saying l.sayings.items)
