use Rattle.std.proofs.Common.{arith}
use Rattle.std.specs.Prelude.{string_bytes}
use Rattle.trace_explain.specs.Texts.{found_text, known_lines}
use Rattle.trace_explain.specs.Views.{watched_by}
use Rattle.trace_explain.proofs.Printing.{numbered-more, numbered-whole}
use Rattle.trace_explain.proofs.history.History.found_text.Goals as goal

pub loop-place-preserved : goal.loop-place-preserved
loop-place-preserved c = numbered-more (known_lines (watched_by c.args.self.now)) (string_bytes c.loop-place.text)
    (string_bytes c.push_known.new.text) c.args.held.now c.loop-place.place
    c.index-held-place.result (found_text (watched_by c.args.self.now) c.args.held.now)
    (omega arith) c.index-held-place.is c.in_ok-push_known.ensures c.loop-place.invariant

pub returns : goal.returns
returns c = numbered-whole (known_lines (watched_by c.args.self.now)) (string_bytes c.loop-place.text) c.args.held.now c.loop-place.place
    (found_text (watched_by c.args.self.now) c.args.held.now) (omega arith)
    c.loop-place.invariant
