-- First runs of which some were compared.
use Rattle.std.proofs.Common.{◌≡◌, ◌≢◌, ◌∙◌, sym, ap, ℕ, ◌+◌, ◌*◌, ◌<◌, ◌≤◌, List, [], ◌∷◌, length, get_or, set}
use Rattle.std.proofs.Common.{Bool, true, false, cond, arith, ⊎_elim, Some, drop}
use Rattle.std.proofs.lemmas.Bool.{cases_eq, false≢true}
use Rattle.std.proofs.lemmas.List.{get_or-set_other, get_or-set_same, length-set}
use Rattle.std.proofs.lemmas.List.Sums.{sum_by-set}
use Rattle.std.proofs.lemmas.Option.{none-some}
use Rattle.std.specs.List.{sum_by}
use Rattle.std.specs.Prelude.{slice_index_or}
use Rattle.trace_runs.specs.Kept.{IsPassed, IsSettled, IsSettledWith, KeptOver, KeptRuns, NoneIsPassed, NoneIsPassedBut}
use Rattle.trace_runs.specs.Kept.{end_among, first_end, without_first}
use Rattle.trace_runs.proofs.KeptSteps.{elsewhere, read_is}

-- None is over too early for another one, but for those of the hosts that are marked.
abbrev pub AreSettledBut : List Bool → List KeptRuns → Type 0
AreSettledBut touched kept = (q p : ℕ) → q < length kept → p < length kept → p ≢ q →
    slice_index_or touched q false ≡ false → slice_index_or touched p false ≡ false → IsSettled kept q p

marked : (touched : List Bool) (host q : ℕ) (b : Bool) → host < length touched
    → slice_index_or (set touched host true) q b ≡ false → q ≡ host → ⊥
marked touched host q b within isnt same =
    false≢true (sym isnt ∙ ap (λ k. slice_index_or (set touched host true) k b) same
    ∙ get_or-set_same touched host true b within)

unmarked : (touched : List Bool) (host q : ℕ) (mark b : Bool) → (q ≡ host → ⊥)
    → slice_index_or (set touched host mark) q b ≡ false → slice_index_or touched q b ≡ false
unmarked touched host q mark b other isnt = sym (get_or-set_other touched host q mark b other) ∙ isnt

-- The host whose first run has changed is marked.
pub touched_first : (touched : List Bool) (kept : List KeptRuns) (place : ℕ) → place < length touched
    → NoneIsPassedBut place kept → AreSettledBut (set touched place true) kept
touched_first touched kept place within settled q p q_in p_in apart q_isnt p_isnt =
    settled q p q_in p_in apart (marked touched place q false within q_isnt)
    (marked touched place p false within p_isnt)

-- A first run was dropped, and its host is marked.
pub touched_dropped : (touched : List Bool) (kept : List KeptRuns) (host : ℕ) (read changed : KeptRuns)
    → host < length kept → host < length touched → AreSettledBut touched kept
    → AreSettledBut (set touched host true) (set kept host changed)
touched_dropped touched kept host read changed within in_touched settled q p q_in p_in apart q_isnt p_isnt =
    let q_other = marked touched host q false in_touched q_isnt in
    let p_other = marked touched host p false in_touched p_isnt in
    rw (elsewhere kept host read changed within q q_other, elsewhere kept host read changed within p p_other)
    (settled q p (omega (arith, q_in, length-set kept host changed)) (omega (arith, p_in, length-set kept host changed))
    apart (unmarked touched host q true false q_other q_isnt) (unmarked touched host p true false p_other p_isnt))

-- A host was compared with all others.
pub touched_settled : (touched : List Bool) (kept : List KeptRuns) (host : ℕ) → IsSettledWith host kept
    → AreSettledBut touched kept → AreSettledBut (set touched host false) kept
touched_settled touched kept host compared settled q p q_in p_in apart q_isnt p_isnt =
    ⊎_elim
    (λ (q_is : q ≡ host). rw q_is (compared p p_in (λ same. apart (same ∙ sym q_is))).0)
    (λ (q_other : q ≡ host → ⊥). ⊎_elim
    (λ (p_is : p ≡ host). rw p_is (compared q q_in q_other).1)
    (λ (p_other : p ≡ host → ⊥). settled q p q_in p_in apart (unmarked touched host q false false q_other q_isnt)
    (unmarked touched host p false false p_other p_isnt))
    (cases_eq p host))
    (cases_eq q host)

-- None is marked.
pub touched_none : (touched : List Bool) (kept : List KeptRuns) → length touched ≡ length kept
    → ((host : ℕ) → host < length touched → slice_index_or touched host false ≡ false)
    → AreSettledBut touched kept → NoneIsPassed kept
touched_none touched kept many none settled q p q_in p_in apart =
    settled q p q_in p_in apart (none q (omega (arith, q_in, many))) (none p (omega (arith, p_in, many)))

-- What is left to compare.
abbrev pub left : List Bool → List KeptRuns → ℕ
left touched kept = 2 * sum_by (λ (queue : KeptRuns). length queue.over) kept
    + sum_by (λ (is : Bool). cond is 1 0) touched

mark_at_most : (b : Bool) → cond b 1 0 ≤ 1
mark_at_most true = omega arith
mark_at_most false = omega arith

mark_of : (b : Bool) → b ≡ true → 1 ≤ cond b 1 0
mark_of true is = omega arith
mark_of false is = absurd (false≢true is)

fewer_over : (over : List KeptOver) (numbers : List ℕ) → end_among over ≡ Some numbers
    → length (drop 1 over) + 1 ≡ length over
fewer_over [] numbers ends = absurd (none-some numbers ends)
fewer_over (one ∷ others) numbers ends = omega arith

pub left_dropped : (touched : List Bool) (kept : List KeptRuns) (host : ℕ) (read changed : KeptRuns)
    → host < length kept → host < length touched → IsPassed host kept
    → changed ≡ without_first (get_or kept host read)
    → left (set touched host true) (set kept host changed) < left touched kept
left_dropped touched kept host read changed within in_touched (p, p_in, apart, (numbers, ends, misses)) is =
    let runs = sum_by-set (λ (queue : KeptRuns). length queue.over) kept host changed read within in
    let marks = sum_by-set (λ (is : Bool). cond is 1 0) touched host true false in_touched in
    let its : length changed.over + 1 ≡ length (get_or kept host read).over =
    ap (λ (queue : KeptRuns). length queue.over + 1) is
    ∙ fewer_over (get_or kept host read).over numbers
    (ap first_end (read_is kept host read changed within) ∙ ends) in
    omega (arith, runs, marks, its)

pub left_settled : (touched : List Bool) (kept : List KeptRuns) (host : ℕ) → host < length touched
    → slice_index_or touched host false ≡ true → left (set touched host false) kept < left touched kept
left_settled touched kept host in_touched is =
    let marks = sum_by-set (λ (is : Bool). cond is 1 0) touched host false false in_touched in
    omega (arith, marks, mark_of (get_or touched host false) is)
