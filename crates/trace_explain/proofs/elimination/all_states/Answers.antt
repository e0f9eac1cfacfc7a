use Rattle.trace_explain.proofs.Words.{arith}
use Rattle.trace_explain.proofs.Eliminated.{AreLeft-all}
use Rattle.trace_explain.proofs.elimination.all_states.Goals as goal

pub returns : goal.returns
returns c taken keep = AreLeft-all taken c.args.hosts.now c.loop-host.left.items keep
    (omega (arith, c.loop-host.invariant.many)) (λ p within. c.loop-host.invariant.each p (omega arith))
