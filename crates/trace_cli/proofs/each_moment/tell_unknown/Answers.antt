use Rattle.std.proofs.Common.{subst}
use Rattle.std.specs.Io.KnownBytes.{Appends}
use Rattle.wcp_io.specs.Prefixes.{AppendsPrefix}
use Rattle.trace_cli.proofs.MomentsTold.{cut_unknown, some_stopped, status_for, told_unknown}
use Rattle.trace_cli.proofs.each_moment.tell_unknown.Goals as goal

pub returns-in_err-unknown-clause-told : goal.returns-in_err-unknown-clause-told
returns-in_err-unknown-clause-told g c form conditions known before some =
    some_stopped form c.args.format conditions known before _ c.args.fault some _
    (status_for c.from_residual.result c.in_err-unknown.field-0.0 c.from_residual.ensures)

pub returns-in_err-write_whole-clause-told : goal.returns-in_err-write_whole-clause-told
returns-in_err-write_whole-clause-told g c form conditions known before some =
    let now = g.O.Write.contents c.args.output.now in
    let then = g.O.Write.contents c.write_whole.new.output in
    let unknown = c.in_ok-unknown.unknown in
    cut_unknown form c.args.format conditions known before now c.args.fault some unknown.text.items unknown.status
    c.in_ok-unknown.ensures.told then c.from_residual-in_err-write_whole.result
    c.from_residual-in_err-write_whole.ensures.0
    (subst (AppendsPrefix now then) c.as_slice.ensures.value c.in_err-write_whole.ensures.err)

pub returns-clause-told : goal.returns-clause-told
returns-clause-told g c form conditions known before some =
    let now = g.O.Write.contents c.args.output.now in
    let then = g.O.Write.contents c.write_whole.new.output in
    let unknown = c.in_ok-unknown.unknown in
    told_unknown form c.args.format conditions known before now c.args.fault some unknown.text.items unknown.status
    c.in_ok-unknown.ensures.told then
    (subst (Appends now then) c.as_slice.ensures.value c.in_ok-write_whole.ensures.ok)
