use Rattle.std.proofs.Common.{◌∙◌, refl, subst}
use Rattle.std.specs.Io.KnownBytes.{Appends}
use Rattle.wcp_io.specs.Prefixes.{AppendsPrefix}
use Rattle.wcp_io.specs.declared.io_fault.IoFault.TheVariants.{Memory}
use Rattle.trace_cli.specs.declared.fault.TraceFault.TheVariants.{Io}
use Rattle.trace_detect.specs.Told.{told_by}
use Rattle.trace_text.specs.Printed.{counted}
use Rattle.trace_cli.specs.EachMoment.{CutAtEnd, NoneTold, WholeTold, moments_text}
use Rattle.trace_cli.proofs.MomentsTold.{alone, counts, cut_alone, last_stopped, no_moment, status_for}
use Rattle.trace_cli.proofs.Statuses.{status_after_err}
use Rattle.trace_cli.proofs.Telling.{cut_behind, status_handed}
use Rattle.std.proofs.KnownBytes.{Appends-trans}
use Rattle.trace_cli.proofs.each_moment.tell_end.Goals as goal

pub returns-in_err-answer-clause-told : goal.returns-in_err-answer-clause-told
returns-in_err-answer-clause-told g c form conditions known rest before last =
    last_stopped form c.args.format conditions known rest before _ c.args.count c.args.moments.now last _
    (status_for c.from_residual.result c.in_err-answer.field-0.0 c.from_residual.ensures)

pub returns-in_err-write_whole-clause-told : goal.returns-in_err-write_whole-clause-told
returns-in_err-write_whole-clause-told g c form conditions known rest before last =
    let now = g.O.Write.contents c.args.output.now in
    let then = g.O.Write.contents c.write_whole.new.output in
    let none_told = last.many ∙ c.if-count-eq0.true in
    let answers = c.in_ok-answer.ensures conditions last.none.logged last.none.counted
    (no_moment form c.args.format conditions known rest before now c.args.moments.now last.told none_told last.none) in
    CutAtEnd c.in_ok-text.text.items _
    (NoneTold rest last.none.logged (told_by c.in_ok-answer.answer) last.none.says answers c.in_ok-text.ensures refl)
    (cut_alone form c.args.format conditions known rest before now c.args.moments.now last.told none_told last.written then _
    (subst (AppendsPrefix now then) c.as_slice.ensures.value c.in_err-write_whole.ensures.err))
    (status_after_err _ c.from_residual-in_err-write_whole.ensures.0)

pub returns-then-count-eq0-clause-told : goal.returns-then-count-eq0-clause-told
returns-then-count-eq0-clause-told g c form conditions known rest before last =
    let now = g.O.Write.contents c.args.output.now in
    let then = g.O.Write.contents c.write_whole.new.output in
    let none_told = last.many ∙ c.if-count-eq0.true in
    let answers = c.in_ok-answer.ensures conditions last.none.logged last.none.counted
    (no_moment form c.args.format conditions known rest before now c.args.moments.now last.told none_told last.none) in
    WholeTold c.in_ok-text.text.items
    (NoneTold rest last.none.logged (told_by c.in_ok-answer.answer) last.none.says answers c.in_ok-text.ensures
    c.status_of.ensures)
    (alone form c.args.format conditions known rest before now c.args.moments.now last.told none_told last.written then _
    (subst (Appends now then) c.as_slice.ensures.value c.in_ok-write_whole.ensures.ok))

pub returns-in_err-text-2-clause-told : goal.returns-in_err-text-2-clause-told
returns-in_err-text-2-clause-told g c form conditions known rest before last =
    last_stopped form c.args.format conditions known rest before _ c.args.count c.args.moments.now last _
    (status_handed c.from_residual-in_err-text-2.result (Io Memory) c.from_residual-in_err-text-2.ensures)

pub returns-in_err-write_whole-2-clause-told : goal.returns-in_err-write_whole-2-clause-told
returns-in_err-write_whole-2-clause-told g c form conditions known rest before last =
    let now = g.O.Write.contents c.args.output.now in
    let then = g.O.Write.contents c.write_whole-2.new.output in
    CutAtEnd _ 0
    (counts form c.args.format conditions known rest before now c.args.moments.now last.told c.args.count last.many
    c.if-count-eq0.false last.are last.none)
    (cut_behind before now then (moments_text c.args.format conditions last.told) (counted c.args.format c.args.count) last.written
    (subst (AppendsPrefix now then) (c.as_slice-2.ensures.value ∙ c.in_ok-text-2.ensures)
    c.in_err-write_whole-2.ensures.err))
    (status_after_err _ c.from_residual-in_err-write_whole-2.ensures.0)

pub returns-clause-told : goal.returns-clause-told
returns-clause-told g c form conditions known rest before last =
    let now = g.O.Write.contents c.args.output.now in
    let then = g.O.Write.contents c.write_whole-2.new.output in
    WholeTold _
    (counts form c.args.format conditions known rest before now c.args.moments.now last.told c.args.count last.many
    c.if-count-eq0.false last.are last.none)
    (Appends-trans before now then (moments_text c.args.format conditions last.told) (counted c.args.format c.args.count) last.written
    (subst (Appends now then) (c.as_slice-2.ensures.value ∙ c.in_ok-text-2.ensures) c.in_ok-write_whole-2.ensures.ok))

pub returns-in_err-text-clause-told : goal.returns-in_err-text-clause-told
returns-in_err-text-clause-told g c form conditions known rest before last =
    last_stopped form c.args.format conditions known rest before _ c.args.count c.args.moments.now last _
    (status_handed c.from_residual-in_err-text.result (Io Memory) c.from_residual-in_err-text.ensures)
