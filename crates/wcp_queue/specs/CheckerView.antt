use Rattle.wcp_queue.specs.declared.checker.Checker.TheInside.{Inside}
use Rattle.wcp_queue.specs.Checker.{CheckerState, IsSoundChecker}

abbrev pub checker_state : Inside → CheckerState
checker_state c = record {
  count = c.processes;
  watched = c.watched;
  members = c.members;
  queues = c.queues;
  floor = c.floor;
  taken = c.taken;
  closed = c.closed;
  lost = c.lost;
  found = c.found;
  starved = c.starved;
}

abbrev pub IsSoundInside : Inside → Type 0
IsSoundInside c = IsSoundChecker (checker_state c)
