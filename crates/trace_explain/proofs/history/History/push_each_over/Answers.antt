use Rattle.std.proofs.Common.{arith}
use Rattle.std.specs.Prelude.{string_bytes}
use Rattle.trace_explain.specs.declared.reason.StateOver.{StateOver}
use Rattle.trace_explain.specs.Texts.{over_line}
use Rattle.trace_explain.specs.Views.{watched_by}
use Rattle.trace_explain.proofs.Printing.{flat-more}
use Rattle.trace_explain.proofs.history.History.push_each_over.Goals as goal

pub loop-one-preserved : goal.loop-one-preserved
loop-one-preserved c =
    let none : StateOver = record { line = 0; at_place = 0; at_line = 0; knows_up_to = 0 } in
    flat-more (over_line (watched_by c.args.self.now) c.args.place) (string_bytes c.args.text.now)
    (string_bytes c.loop-one.text) (string_bytes c.push_over.new.text) c.args.over.now c.loop-one.one-index none
    (omega arith) c.in_ok-push_over.ensures c.loop-one.invariant
