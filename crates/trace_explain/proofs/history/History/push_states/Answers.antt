use Rattle.std.proofs.Common.{◌++◌, arith}
use Rattle.std.specs.Prelude.{string_bytes}
use Rattle.trace_explain.specs.Texts.{numbered, state_of}
use Rattle.trace_explain.specs.Views.{watched_by}
use Rattle.trace_explain.proofs.Printing.{numbered-more, numbered-whole}
use Rattle.trace_explain.proofs.history.History.push_states.Goals as goal

pub loop-place-preserved : goal.loop-place-preserved
loop-place-preserved c = numbered-more (state_of (watched_by c.args.self.now)) (string_bytes c.loop-place.text)
    (string_bytes c.push_state.new.text) c.args.held.now c.loop-place.place
    c.index-held-place.result (string_bytes c.args.text.now ++ numbered (state_of (watched_by c.args.self.now)) 0 c.args.held.now)
    (omega arith) c.index-held-place.is c.in_ok-push_state.ensures c.loop-place.invariant

pub returns : goal.returns
returns c = numbered-whole (state_of (watched_by c.args.self.now)) (string_bytes c.loop-place.text) c.args.held.now c.loop-place.place
    (string_bytes c.args.text.now ++ numbered (state_of (watched_by c.args.self.now)) 0 c.args.held.now) (omega arith)
    c.loop-place.invariant
