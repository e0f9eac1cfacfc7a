use Rattle.std.specs.Io.KnownBytes.{Appends}
use Rattle.trace_asking.specs.Asking.{answered_by}
use Rattle.trace_text.specs.Waiting.{seen_waiting}
use Rattle.trace_cli.specs.Questions.{unknown_first}
use Rattle.trace_cli.proofs.answering.Answering.tell_unknown.Given as goal

abbrev pub invariant-loop-place : goal.invariant-loop-place
invariant-loop-place g l =
    Appends (g.O.Write.contents l.initial.output) (g.O.Write.contents l.output)
    (unknown_first l.self.format l.self.questions.now (answered_by l.self.asking) (seen_waiting l.waiting) l.place)
