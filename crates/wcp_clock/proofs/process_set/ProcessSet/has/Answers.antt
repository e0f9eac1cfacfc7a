use Rattle.std.proofs.Common.{sym, arith}
use Rattle.std.proofs.lemmas.Bool.Decides.{nat_tests}
use Rattle.wcp_clock.specs.Numbers.{contains-marks}
use Rattle.wcp_clock.proofs.Marks.{process_numbers, past_is_out}
use Rattle.wcp_clock.proofs.process_set.ProcessSet.has.Goals as goal

pub returns-then-p-lt-MAX_PROCS-clause-value : goal.returns-then-p-lt-MAX_PROCS-clause-value
returns-then-p-lt-MAX_PROCS-clause-value c = rw (← c.self.view_is) (sym (contains-marks c.self.inside.has c.args.p))

pub returns-then-p-lt-MAX_PROCS-clause-within : goal.returns-then-p-lt-MAX_PROCS-clause-within
returns-then-p-lt-MAX_PROCS-clause-within c = process_numbers c.self.inside.has _ c.self.invariant c.self.view_is

pub returns-else-p-lt-MAX_PROCS-clause-value : goal.returns-else-p-lt-MAX_PROCS-clause-value
returns-else-p-lt-MAX_PROCS-clause-value c =
    let out = past_is_out c.self.inside.has c.args.p (omega (arith, c.self.invariant, c.if-p-lt-MAX_PROCS.false)) in
    rw (← c.self.view_is) (grind (arith, nat_tests, out))

pub returns-else-p-lt-MAX_PROCS-clause-within : goal.returns-else-p-lt-MAX_PROCS-clause-within
returns-else-p-lt-MAX_PROCS-clause-within c = process_numbers c.self.inside.has _ c.self.invariant c.self.view_is
