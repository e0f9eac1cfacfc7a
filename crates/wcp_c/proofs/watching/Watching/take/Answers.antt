use Rattle.wcp_c.proofs.watching.Watching.take.Goals as goal

pub returns-in-Some-refusal-clause-tagged : goal.returns-in-Some-refusal-clause-tagged
returns-in-Some-refusal-clause-tagged c = λ is. absurd (c.in-Some-refusal.ensures.none_is_done is)
