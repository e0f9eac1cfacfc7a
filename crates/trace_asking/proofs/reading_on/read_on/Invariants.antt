use Rattle.trace_asking.proofs.Words.{List, Logged}
use Rattle.trace_asking.proofs.ReadingOn.{HasReadOn}
use Rattle.trace_asking.proofs.reading_on.read_on.Given as goal

abbrev pub invariant-loop-more : goal.invariant-loop-more
invariant-loop-more g l =
    (whole : g.S.Source.Whole) (logged : List Logged) → (g.S.Source.story whole).gave logged l.initial.source
    → HasReadOn (g.S.Source.story whole) logged l.source l.more
