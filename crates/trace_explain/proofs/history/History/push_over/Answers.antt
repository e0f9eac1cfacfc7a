use Rattle.trace_explain.proofs.history.History.push_over.Goals as goal

pub returns : goal.returns
returns c = rw (← c.in_ok-name.ensures, ← c.in_ok-at.ensures) c.writeln.ensures.bytes
