use Rattle.std.proofs.Common.{sym, arith, ◌≡◌, ◌<◌, length}
use Rattle.wcp_script.specs.Lines.{lines_of}
use Rattle.wcp_script.proofs.StepLines.{steps_fail, steps_end, steps_behind_more, steps_behind_nothing, step_after_is}
use Rattle.wcp_script.proofs.step_line.read_steps.Goals as goal

pub loop-said-init : goal.loop-said-init
loop-said-init g c =
    let read = c.in_ok-rest.ensures.read c.args.last in
    let none = steps_behind_nothing g.S.StepLine.text_kind c.args.n c.args.last (lines_of c.args.text.now) in
    record { few = c.in_ok-rest.ensures.room; so_far = cc (read, none, c.in_ok-steps.ensures.items) }

pub returns-in-Err : goal.returns-in-Err
returns-in-Err g c =
    let failed =
    sym (c.in-Err.ensures g.S.StepLine.text_kind c.args.n c.in-Some.ensures.line.0 c.in-Some.ensures.line.2) in
    let same : length c.loop-said.steps.items ≡ c.len.result = omega (arith, c.len.ensures) in
    let fails = steps_fail g.S.StepLine.text_kind c.args.n c.args.last c.loop-said.steps.items c.in-Some.ensures.line.0
    c.in-Err.kind _ _ c.in-Some.ensures.line.1 (rw (sym same) at failed) in
    cc

pub loop-said-preserved : goal.loop-said-preserved
loop-said-preserved g c =
    let said =
    sym (c.in-Ok.ensures g.S.StepLine.text_kind c.args.n c.in-Some.ensures.line.0 c.in-Some.ensures.line.2) in
    let is = step_after_is g.S.StepLine.text_kind c.args.n c.len.result c.in-Some.ensures.line.0 c.in-Ok.step said in
    let few : length c.loop-said.steps.items < 65536 = omega (arith, is.few, c.len.ensures) in
    let more = steps_behind_more g.S.StepLine.text_kind c.args.n c.args.last c.loop-said.steps.items
    c.in-Some.ensures.line.0 c.in-Ok.step _ _ c.in-Some.ensures.line.1 (sym is.said) few in
    let so_far = c.loop-said.invariant.so_far in
    let read = c.in_ok-rest-2.ensures.read c.args.last in
    record { few = c.in_ok-rest-2.ensures.room; so_far = cc (more, so_far, read, c.in_ok-push.ensures.items) }

pub returns : goal.returns
returns g c =
    let end =
    steps_end g.S.StepLine.text_kind c.args.n c.args.last c.loop-said.steps.items _ c.in_default.ensures.line in
    cc
