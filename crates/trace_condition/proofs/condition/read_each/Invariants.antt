use Rattle.trace_condition.proofs.Words.{◌≡◌, map, take, All, seen_saying, said_by, IsRead}
use Rattle.trace_condition.proofs.condition.read_each.Given as goal

abbrev pub invariant-loop-saying : goal.invariant-loop-saying
invariant-loop-saying l =
    (map said_by l.conditions.items ≡ map seen_saying (take l.saying-index l.sayings)) × All IsRead l.conditions.items
