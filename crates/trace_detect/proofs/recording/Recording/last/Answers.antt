use Rattle.trace_detect.proofs.Recorded.{last-fault}
use Rattle.trace_detect.proofs.recording.Recording.last.Goals as goal

pub returns-in_err-answer-clause-answer : goal.returns-in_err-answer-clause-answer
returns-in_err-answer-clause-answer c conditions logged watching =
    last-fault conditions logged _ _ c.from_residual.ensures (c.in_err-answer.ensures.answer conditions logged watching)

pub returns-in_err-why-clause-answer : goal.returns-in_err-why-clause-answer
returns-in_err-why-clause-answer c conditions logged watching =
    last-fault conditions logged _ _ c.from_residual-in_err-why.ensures tt
