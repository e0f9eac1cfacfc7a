-- What the end of a log makes known.
use Rattle.trace_spelling.proofs.Words.{◌≡◌, ◌<◌, ℕ, true, false, List, [], ◌++◌, length, sym}
use Rattle.trace_spelling.proofs.Words.{append-nil, codes, lt-ltb, fault_line, Text, Wait, number_behind, Rule}
use Rattle.trace_spelling.proofs.Words.{said_lines}

pub end_skips : (rule : Rule) (waits : List Wait) (out : List ℕ) → rule.skips ≡ true
    → (number : ℕ) → out ≡ out ++ said_lines rule waits number []
unfolding said_lines
end_skips rule waits out skips number = rw skips (sym (append-nil out))

pub end_none : (rule : Rule) (waits : List Wait) (out : List ℕ) → rule.skips ≡ false → waits ≡ []
    → (number : ℕ) → out ≡ out ++ said_lines rule waits number []
unfolding said_lines
end_none rule waits out strict none number = rw (strict, none) (sym (append-nil out))

pub end_faulty : (rule : Rule) (waits : List Wait) (out out' : List ℕ) (first : ℕ) → rule.skips ≡ false
    → 0 < length waits → first ≡ number_behind waits 0
    → out' ≡ out ++ fault_line first Text (codes "the log ends before the other lines of this event")
    → (number : ℕ) → out' ≡ out ++ said_lines rule waits number []
unfolding said_lines
end_faulty rule waits out out' first strict some is added number =
    rw (strict, lt-ltb 0 (length waits) some, ← is) added
