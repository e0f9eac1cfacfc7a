use Rattle.trace_log.proofs.Words.{sym, subst}
use Rattle.trace_log.specs.declared.fault.LogFaultKind.TheVariants.{Text}
use Rattle.trace_log.specs.Kept.{KeepsStamp}
use Rattle.trace_log.proofs.Stamps.{stamp_parts, stamp_no_text, stamp_no_parts}
use Rattle.trace_log.proofs.stamp.stamp_kept.Goals as goal

pub returns-in-Err-clause-stamp : goal.returns-in-Err-clause-stamp
returns-in-Err-clause-stamp c earlier kept = stamp_no_text earlier c.args.line.now c.in-Err.kind c.in-Err.ensures

pub returns-in_default-clause-stamp : goal.returns-in_default-clause-stamp
returns-in_default-clause-stamp c earlier kept =
    stamp_no_parts earlier c.args.line.now c.in-Ok.text.now Text c.in-Ok.ensures c.in_default.ensures

pub returns-clause-stamp : goal.returns-clause-stamp
returns-clause-stamp c earlier kept =
    subst (λ judged. KeepsStamp earlier judged c.parts_kept.result c.parts_kept.new.hosts)
    (sym (stamp_parts earlier c.args.line.now c.in-Ok.text.now c.in-Some.host.now c.in-Some.rest.now c.in-Ok.ensures
    c.in-Some.ensures)) (c.parts_kept.ensures.stamp earlier kept)
