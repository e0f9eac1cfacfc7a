-- The ends of lines that an expression names, byte by byte.
use Rattle.std.proofs.Common.{◌≡◌, ◌∙◌, ◌+◌, ◌<◌, ◌≤◌, ℕ, Bool, true, false, cond, List, [], length, get_or, drop}
use Rattle.std.proofs.Common.{refl, ap}
use Rattle.std.proofs.Common.{arith, add-one, drop-cons}
use Rattle.std.proofs.lemmas.List.{drop_all}
use Rattle.trace_spelling.specs.Breaks.{is_break, begins_escape}
unfoldable use Rattle.trace_spelling.specs.Breaks.{breaks}

-- One byte more.
break_step : (escaped : Bool) (bytes : List ℕ) (i : ℕ) → i < length bytes
    → breaks escaped (drop i bytes) ≡ cond (is_break escaped (get_or bytes i 0)) 1 0
    + breaks (begins_escape escaped (get_or bytes i 0)) (drop (i + 1) bytes)
unfolding breaks
break_step escaped bytes i within = rw (add-one, drop-cons bytes i 0) refl

pub one_more : (count one i total : ℕ) (escaped escaped' test : Bool) (bytes : List ℕ) → i < length bytes
    → count + breaks escaped (drop i bytes) ≡ total → one ≡ cond test 1 0
    → test ≡ is_break escaped (get_or bytes i 0) → escaped' ≡ begins_escape escaped (get_or bytes i 0)
    → count + one + breaks escaped' (drop (i + 1) bytes) ≡ total
one_more count one i total escaped escaped' test bytes within so_far is tested next =
    let step = break_step escaped bytes i within in
    let counted : one ≡ cond (is_break escaped (get_or bytes i 0)) 1 0 = is ∙ ap (λ b. cond b 1 0) tested in
    let rest = ap (λ e. breaks e (drop (i + 1) bytes)) next in
    omega (arith, step, counted, rest)

pub all_counted : (count i total : ℕ) (escaped : Bool) (bytes : List ℕ) → length bytes ≤ i
    → count + breaks escaped (drop i bytes) ≡ total → count ≡ total
unfolding breaks
all_counted count i total escaped bytes behind is =
    let none : drop i bytes ≡ [] = drop_all i bytes behind in
    omega (arith, rw none at is)

pub at_most_one : (test : Bool) (one : ℕ) → one ≡ cond test 1 0 → one ≤ 1
at_most_one true one is = omega arith
at_most_one false one is = omega arith
