use Rattle.trace_condition.proofs.Words.{◌≡◌, map, drop, are_distinct, host_said}
use Rattle.trace_condition.proofs.saying.are_distinct.Given as goal

abbrev pub invariant-loop-at : goal.invariant-loop-at
invariant-loop-at l =
    are_distinct (map host_said (drop l.at l.sayings)) ≡ are_distinct (map host_said l.sayings)
