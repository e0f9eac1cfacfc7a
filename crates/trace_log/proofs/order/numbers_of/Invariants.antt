use Rattle.trace_log.proofs.Words.{◌≡◌, ℕ, List, take, number_of, seen_clock, number_kept}
use Rattle.trace_log.proofs.order.numbers_of.Given as goal

abbrev pub invariant-loop-one : goal.invariant-loop-one
invariant-loop-one l = (name : List ℕ)
    → number_kept l.numbers name ≡ number_of name (seen_clock (take l.one-index l.clock))
