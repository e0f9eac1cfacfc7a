use Rattle.std.proofs.Common.{[], refl, subst}
use Rattle.std.specs.Io.KnownBytes.{Appends}
use Rattle.wcp_io.specs.Prefixes.{AppendsPrefix}
use Rattle.wcp_io.specs.Reader.{left}
use Rattle.std.proofs.KnownBytes.{Appends-nil}
use Rattle.wcp_io.specs.declared.io_fault.IoFault.TheVariants.{Memory}
use Rattle.trace_cli.specs.declared.fault.TraceFault.TheVariants.{Io}
use Rattle.trace_cli.specs.EachMoment.{Stopped, last_logged, last_moment}
use Rattle.trace_cli.specs.Statuses.{refused}
use Rattle.trace_cli.proofs.MomentsTold.{begun, cut_within, ended, stopped, stops_for, tells_more}
use Rattle.trace_cli.proofs.Telling.{status_handed}
use Rattle.trace_cli.proofs.each_moment.tell_each.Goals as goal

pub returns-in_err-moments-clause-told : goal.returns-in_err-moments-clause-told
returns-in_err-moments-clause-told g c =
    Stopped [] tt (Appends-nil (g.O.Write.contents c.args.output.now))
    (status_handed c.from_residual.result (Io Memory) c.from_residual.ensures)

pub loop-count-init : goal.loop-count-init
loop-count-init g c =
    let known = g.I.Read.remaining c.args.input.now in
    begun c.args.form c.args.format c.args.conditions.now known (left c.in_ok-moments.moments.events.lines known)
    (g.O.Write.contents c.args.output.now) c.in_ok-moments.moments (c.in_ok-moments.ensures known)

pub returns-in-Err-clause-told : goal.returns-in-Err-clause-told
returns-in-Err-clause-told g c =
    let known = g.I.Read.remaining c.args.input.now in
    let before = g.O.Write.contents c.args.output.now in
    let now = g.O.Write.contents c.loop-count.output in
    let telling = c.loop-count.invariant in
    c.tell_unknown.ensures.told c.args.form c.args.conditions.now known before
    (stops_for c.args.form c.args.format c.args.conditions.now known _ before now c.loop-count.count c.loop-count.moments
    telling c.in-Err.fault (c.in-Err.ensures c.args.form c.args.conditions.now known (last_moment telling.told)
    (last_logged telling.told) telling.following))

pub tell_end-requires : goal.tell_end-requires
tell_end-requires g c =
    let known = g.I.Read.remaining c.args.input.now in
    let telling = c.loop-count.invariant in
    let none = rw c.in_default.is at (c.in-Ok.ensures c.args.form c.args.conditions.now known (last_moment telling.told)
    (last_logged telling.told) telling.following) in
    record {
      conditions = c.args.conditions.now;
      logged = none.logged;
      is = none.counted;
    }

pub returns-in_default-clause-told : goal.returns-in_default-clause-told
returns-in_default-clause-told g c =
    let known = g.I.Read.remaining c.args.input.now in
    let before = g.O.Write.contents c.args.output.now in
    let now = g.O.Write.contents c.loop-count.output in
    let telling = c.loop-count.invariant in
    let further = left c.next_moment.new.self.events.lines (g.I.Read.remaining c.next_moment.new.input) in
    let none = rw c.in_default.is at (c.in-Ok.ensures c.args.form c.args.conditions.now known (last_moment telling.told)
    (last_logged telling.told) telling.following) in
    c.tell_end.ensures.told c.args.form c.args.conditions.now known further before
    (ended c.args.form c.args.format c.args.conditions.now known _ before now c.loop-count.count c.loop-count.moments telling further
    c.next_moment.new.self none)

pub returns-in_err-write_whole-clause-told : goal.returns-in_err-write_whole-clause-told
returns-in_err-write_whole-clause-told g c =
    let known = g.I.Read.remaining c.args.input.now in
    let before = g.O.Write.contents c.args.output.now in
    let now = g.O.Write.contents c.loop-count.output in
    let telling = c.loop-count.invariant in
    let further = left c.next_moment.new.self.events.lines (g.I.Read.remaining c.next_moment.new.input) in
    let then = g.O.Write.contents c.write_whole.new.output in
    let next = rw c.in-Some.is at (c.in-Ok.ensures c.args.form c.args.conditions.now known (last_moment telling.told)
    (last_logged telling.told) telling.following) in
    cut_within c.args.form c.args.format c.args.conditions.now known _ before now c.loop-count.count c.loop-count.moments telling
    further c.in-Some.answer c.in_ok-text.text.items c.next_moment.new.self next c.in_ok-text.ensures then c.from_residual-in_err-write_whole.result
    c.from_residual-in_err-write_whole.ensures.0
    (subst (AppendsPrefix now then) c.as_slice.ensures.value c.in_err-write_whole.ensures.err)

pub loop-count-preserved : goal.loop-count-preserved
loop-count-preserved g c =
    let known = g.I.Read.remaining c.args.input.now in
    let before = g.O.Write.contents c.args.output.now in
    let now = g.O.Write.contents c.loop-count.output in
    let telling = c.loop-count.invariant in
    let further = left c.next_moment.new.self.events.lines (g.I.Read.remaining c.next_moment.new.input) in
    let then = g.O.Write.contents c.write_whole.new.output in
    let next = rw c.in-Some.is at (c.in-Ok.ensures c.args.form c.args.conditions.now known (last_moment telling.told)
    (last_logged telling.told) telling.following) in
    tells_more c.args.form c.args.format c.args.conditions.now known _ before now c.loop-count.count c.loop-count.moments telling
    further c.in-Some.answer c.in_ok-text.text.items c.next_moment.new.self next c.in_ok-text.ensures then
    (subst (Appends now then) c.as_slice.ensures.value c.in_ok-write_whole.ensures.ok)

pub returns-clause-told : goal.returns-clause-told
returns-clause-told g c =
    let known = g.I.Read.remaining c.args.input.now in
    let before = g.O.Write.contents c.args.output.now in
    let now = g.O.Write.contents c.loop-count.output in
    let telling = c.loop-count.invariant in
    stopped c.args.form c.args.format c.args.conditions.now known _ before now c.loop-count.count c.loop-count.moments telling refused
    refl

pub returns-in_err-text-clause-told : goal.returns-in_err-text-clause-told
returns-in_err-text-clause-told g c =
    let known = g.I.Read.remaining c.args.input.now in
    let before = g.O.Write.contents c.args.output.now in
    let now = g.O.Write.contents c.loop-count.output in
    let telling = c.loop-count.invariant in
    stopped c.args.form c.args.format c.args.conditions.now known _ before now c.loop-count.count c.loop-count.moments
    telling _ (status_handed c.from_residual-in_err-text.result (Io Memory) c.from_residual-in_err-text.ensures)
