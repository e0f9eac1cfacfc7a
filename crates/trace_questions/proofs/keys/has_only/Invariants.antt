use Rattle.trace_questions.proofs.Words.{◌≡◌, has_only, members_view, seen_texts}
use Rattle.trace_questions.proofs.keys.has_only.Given as goal

-- The keys that are left decide.
abbrev pub invariant-loop-key : goal.invariant-loop-key
invariant-loop-key l =
    has_only (seen_texts l.keys) (members_view l.key-iterator)
    ≡ has_only (seen_texts l.keys) (members_view l.table.entries)
