-- What a history stands for.
use Rattle.std.specs.Prelude.{List, Result}
use Rattle.std.specs.declared.alloc.AllocError.{AllocError}
use Rattle.trace_moment.specs.Moment.{HostWatch, Taken}
use Rattle.trace_explain.specs.declared.history.History.{History}
use Rattle.trace_explain.specs.History.{watched_in, KeepPast, KeepNext}

-- The hosts that it watches.
abbrev pub watched_by : History → List HostWatch
watched_by history = watched_in history.hosts.items

-- It keeps the events that were taken.
abbrev pub Remembers : List Taken → History → Type 0
Remembers taken history = KeepPast taken history.hosts.items

-- It keeps one event more; or memory ran out, and it keeps those before.
abbrev pub RemembersNext : List Taken → Taken → Result (Unit {0}) AllocError → History → Type 0
RemembersNext taken next result history = KeepNext taken next result history.hosts.items
