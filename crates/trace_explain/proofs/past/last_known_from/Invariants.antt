use Rattle.std.proofs.Common.{◌<◌, ◌≤◌, ◌-◌, length}
use Rattle.trace_explain.specs.Left.{number_in}
use Rattle.trace_explain.proofs.past.last_known_from.Given as goal

abbrev pub invariant-loop-high : goal.invariant-loop-high
invariant-loop-high l = record {
  apart : l.low < l.high;
  within : l.high ≤ length l.events;
  up_to : number_in l.events l.low l.place ≤ l.number;
  behind : l.high < length l.events → l.number < number_in l.events l.high l.place;
}

abbrev pub decreases-loop-high : goal.decreases-loop-high
decreases-loop-high l = l.high - l.low
