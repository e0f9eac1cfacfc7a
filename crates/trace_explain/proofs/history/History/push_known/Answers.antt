use Rattle.std.proofs.Common.{◌++◌, arith}
use Rattle.std.specs.Prelude.{string_bytes}
use Rattle.trace_explain.specs.Texts.{known_lines, known_of}
use Rattle.trace_explain.specs.Views.{watched_by}
use Rattle.trace_explain.proofs.Printing.{numbered-more, numbered-whole}
use Rattle.trace_explain.proofs.history.History.push_known.Goals as goal

pub loop-other-preserved : goal.loop-other-preserved
loop-other-preserved c = numbered-more (known_of (watched_by c.args.self.now) c.args.place c.args.held.now.line) (string_bytes c.loop-other.text)
    (string_bytes c.push_known_of.new.text) c.args.held.now.knows.items c.loop-other.other
    c.index.result.now (string_bytes c.args.text.now ++ known_lines (watched_by c.args.self.now) c.args.place c.args.held.now)
    (omega arith) c.index.ensures c.in_ok-push_known_of.ensures c.loop-other.invariant

pub returns : goal.returns
returns c = numbered-whole (known_of (watched_by c.args.self.now) c.args.place c.args.held.now.line) (string_bytes c.loop-other.text) c.args.held.now.knows.items c.loop-other.other
    (string_bytes c.args.text.now ++ known_lines (watched_by c.args.self.now) c.args.place c.args.held.now) (omega arith)
    c.loop-other.invariant
