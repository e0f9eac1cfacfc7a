use Rattle.trace_detect.proofs.Recorded.{no-why, why-of-some}
use Rattle.trace_detect.proofs.reasons.why_it_stands.Goals as goal

pub returns-in_default : goal.returns-in_default
returns-in_default c conditions why logged kept =
    no-why why conditions logged _ _ c.in_default.is kept c.new.ensures.bytes

pub returns : goal.returns
returns c conditions why logged kept =
    why-of-some why conditions logged _ c.in-Some.history c.in_ok-explanation.explanation c.text.result c.in-Some.is
    kept c.in_ok-explanation.ensures c.text.ensures
