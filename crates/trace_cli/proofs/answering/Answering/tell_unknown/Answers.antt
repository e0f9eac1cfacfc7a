use Rattle.std.proofs.Common.{◌≡◌, arith, length, refl, subst, sym}
use Rattle.std.specs.Io.KnownBytes.{Appends}
use Rattle.trace_asking.specs.Asking.{answered_by}
use Rattle.trace_text.specs.Waiting.{seen_waiting}
use Rattle.wcp_io.specs.declared.io_fault.IoFault.TheVariants.{Memory}
use Rattle.trace_cli.specs.declared.fault.TraceFault.TheVariants.{Io}
use Rattle.std.proofs.KnownBytes.{Appends-nil, Appends-trans}
use Rattle.trace_cli.proofs.Telling.{cuts_by, none_unknown, one_unknown, some_stopped, stops_by, tells_unknown}
use Rattle.trace_cli.proofs.answering.Answering.tell_unknown.Goals as goal

pub returns-in_err-waiting-clause-tells : goal.returns-in_err-waiting-clause-tells
returns-in_err-waiting-clause-tells g c form format questions known before answered some stops keeps =
    stops_by form format questions known before _ answered c.args.self.now some c.from_residual.result (Io Memory) _
    c.from_residual.ensures refl

pub returns-in_default-clause-tells : goal.returns-in_default-clause-tells
returns-in_default-clause-tells g c form format questions known before answered some stops keeps =
    some_stopped form format questions known before _ answered c.args.self.now some _ refl

pub loop-place-init : goal.loop-place-init
loop-place-init g c =
    let output = g.O.Write.contents c.args.output.now in
    subst (Appends output output) (sym (none_unknown c.args.self.now.format c.args.self.now.questions.now
    (answered_by c.args.self.now.asking) (seen_waiting c.in-Some.waiting))) (Appends-nil output)

pub loop-place-preserved : goal.loop-place-preserved
loop-place-preserved g c =
    let output = g.O.Write.contents c.args.output.now in
    let now = g.O.Write.contents c.tell_waiting.new.output in
    subst (Appends output now) (sym (one_unknown c.args.self.now.format c.args.self.now.questions.now
    (answered_by c.args.self.now.asking) (seen_waiting c.in-Some.waiting) c.loop-place.place))
    (Appends-trans output (g.O.Write.contents c.loop-place.output) now _ _ c.loop-place.invariant
    c.in_ok-tell_waiting.ensures.written)

pub returns-in_err-tell_waiting-clause-tells : goal.returns-in_err-tell_waiting-clause-tells
returns-in_err-tell_waiting-clause-tells g c form format questions known before answered some stops keeps =
    cuts_by form format questions known before _ answered c.args.self.now some c.args.fault stops keeps (seen_waiting c.in-Some.waiting)
    (rw c.in-Some.is at c.in_ok-waiting.ensures) (g.O.Write.contents c.loop-place.output)
    (g.O.Write.contents c.tell_waiting.new.output) c.loop-place.place c.from_residual-in_err-tell_waiting.result _
    c.from_residual-in_err-tell_waiting.ensures.0 (omega (arith, c.loop-place-test.true))
    c.loop-place.invariant c.in_err-tell_waiting.ensures.cut_off

pub returns-clause-tells : goal.returns-clause-tells
returns-clause-tells g c form format questions known before answered some stops keeps =
    let all : c.loop-place.place ≡ length c.args.self.now.questions.now = omega (
      arith,
      c.loop-place-test.false,
      c.loop-place.auto.place-end,
    ) in
    tells_unknown form format questions known before _ answered c.args.self.now some c.args.fault stops keeps
    (seen_waiting c.in-Some.waiting) (rw c.in-Some.is at c.in_ok-waiting.ensures) (g.O.Write.contents c.loop-place.output)
    _ (rw all at c.loop-place.invariant) refl
