use Rattle.wcp_clock.proofs.Marks.{process_numbers, set_of-either}
use Rattle.wcp_clock.proofs.process_set.ProcessSet.joined.Goals as goal

pub returns-clause-value : goal.returns-clause-value
returns-clause-value c = rw (← c.self.view_is, ← c.other.view_is)
    (set_of-either c.either.result c.self.inside.has c.other.inside.has c.either.ensures)

pub returns-clause-within : goal.returns-clause-within
returns-clause-within c = process_numbers c.other.inside.has _ c.other.invariant c.other.view_is
