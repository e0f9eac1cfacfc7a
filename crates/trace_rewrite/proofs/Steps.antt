-- What each step of a reader leaves to be said.
use Rattle.trace_rewrite.proofs.Words.{◌≡◌, ◌∙◌, ◌+◌, ◌≤◌, ℕ, Bool, true, false, cond, List, [], ◌∷◌, ◌++◌}
use Rattle.trace_rewrite.proofs.Words.{Option, Some, None, option_map, length, take, refl, sym, ap, subst, arith}
use Rattle.trace_rewrite.proofs.Words.{take-append_seam, take_all, lt-leb}
use Rattle.trace_rewrite.proofs.Words.{suc}
use Rattle.trace_rewrite.proofs.Words.{Consumes, IsAtEnd, Keeps, prepend_known, IfSome, nat_lt, nat_le, ◌&&◌}
use Rattle.trace_rewrite.proofs.Words.{Gives, IsFirst, Whole, Prefix, most_given, lines_of, most_bytes, Form, Stage}
use Rattle.trace_rewrite.proofs.Words.{Reading, Saying, Ending, SaysAgain, SaysLine, is_last, up_to_long}
use Rattle.trace_rewrite.proofs.Words.{read_lines, said_from, said_of_bytes, to_be_said}
use Rattle.trace_rewrite.specs.Saying as spec
use Rattle.std.proofs.lemmas.Bool.Decides.{nat_tests}

-- The last line was read: none is left.
no_more : (last : Option ℕ) (count : ℕ) (lines : List (List ℕ)) → is_last last count ≡ true
    → read_lines last count lines ≡ []
unfolding read_lines
no_more last count [] over = refl
no_more last count (line ∷ lines) over = rw over refl

said_none : (say : spec.Saying) (first count : ℕ) (lines : List (List ℕ)) → lines ≡ []
    → said_from say first count lines ≡ say (count + 1) []
unfolding said_from
said_none say first count lines none = rw none refl

-- The log's end is to be said.
ends : (waits said : List ℕ) (f : List ℕ → List ℕ) (known : Option (List ℕ)) → ((bytes : List ℕ) → f bytes ≡ said)
    → Keeps (prepend_known waits (option_map f known)) (Some (waits ++ said))
ends waits said f None is = tt
ends waits said f (Some bytes) is = ap (λ l. waits ++ l) (sym (is bytes))

pub at_last : (waits : List ℕ) (stage : Stage) (say : spec.Saying) (form : Form) (count : ℕ) (line : List ℕ)
    (known : Option (List ℕ)) → stage ≡ Reading → is_last form.last count ≡ true
    → Keeps (prepend_known waits (to_be_said stage say form count line known)) (Some (waits ++ say (count + 1) []))
at_last waits stage say form count line known reads over =
    subst (λ stage. Keeps (prepend_known waits (to_be_said stage say form count line known))
    (Some (waits ++ say (count + 1) []))) (sym reads)
    (ends waits (say (count + 1) []) (said_of_bytes say form count) known (λ bytes.
    said_none say form.first count _ (no_more form.last count (lines_of bytes) over)))

none_left : (say : spec.Saying) (form : Form) (count : ℕ) (bytes : List ℕ) → bytes ≡ []
    → said_of_bytes say form count bytes ≡ say (count + 1) []
unfolding lines_of read_lines said_from
none_left say form count bytes is = rw is refl

-- The input is at its end.
pub at_end : (waits : List ℕ) (stage : Stage) (say : spec.Saying) (form : Form) (count : ℕ) (line : List ℕ)
    (known known' : Option (List ℕ)) → stage ≡ Reading → Keeps known known' → IsAtEnd known'
    → Keeps (prepend_known waits (to_be_said stage say form count line known)) (Some (waits ++ say (count + 1) []))
at_end waits stage say form count line known known' reads kept ended =
    subst (λ stage. Keeps (prepend_known waits (to_be_said stage say form count line known))
    (Some (waits ++ say (count + 1) []))) (sym reads) (by_known known known' kept ended)
  where
    by_known : (known known' : Option (List ℕ)) → Keeps known known' → IsAtEnd known'
        → Keeps (prepend_known waits (option_map (said_of_bytes say form count) known))
        (Some (waits ++ say (count + 1) []))
    by_known None known' kept ended = tt
    by_known (Some bytes) None kept ended = absurd kept
    by_known (Some bytes) (Some rest) kept ended =
        ap (λ l. waits ++ l) (sym (none_left say form count bytes (sym kept ∙ ended)))

long_front : (line more : List ℕ) (others others' : List (List ℕ)) → length line ≡ most_given
    → up_to_long (take most_given (line ++ more)) others ≡ up_to_long line others'
long_front line more others others' long =
    let front : take most_given (line ++ more) ≡ line =
    ap (λ n. take n (line ++ more)) (sym long) ∙ take-append_seam line more in
    let not_short : nat_le (length line) most_bytes ≡ false = lt-leb (length line) most_bytes (omega arith) in
    rw (front, not_short) refl

-- The lines that are read, by the first one that was given.
first_given : (last : Option ℕ) (count : ℕ) (bytes line rest : List ℕ) → is_last last count ≡ false
    → length line ≤ most_given → IsFirst bytes line rest
    → read_lines last count (lines_of bytes) ≡ up_to_long line (read_lines last (count + 1) (lines_of rest))
unfolding read_lines
first_given last count bytes line rest not_over within (Whole is) =
    ap (read_lines last count) is ∙ rw not_over
    (ap (λ l. up_to_long l (read_lines last (count + 1) (lines_of rest))) (take_all most_given line within))
first_given last count bytes line rest not_over within (Prefix more later is long parts) =
    ap (read_lines last count) is ∙ rw not_over
    (long_front line more (read_lines last (count + 1) later) (read_lines last (count + 1) (lines_of rest)) long)

-- A line was read.
pub one_read : (waits : List ℕ) (stage : Stage) (say : spec.Saying) (form : Form) (count : ℕ) (line line' : List ℕ)
    (known known' : Option (List ℕ)) → stage ≡ Reading → is_last form.last count ≡ false → Gives known known' line'
    → Keeps (prepend_known waits (to_be_said stage say form count line known))
    (prepend_known waits (to_be_said Saying say form count line' known'))
one_read waits stage say form count line line' known known' reads not_over given =
    subst (λ stage. Keeps (prepend_known waits (to_be_said stage say form count line known))
    (prepend_known waits (to_be_said Saying say form count line' known'))) (sym reads)
    (by_known known known' given.consumed given.first)
  where
    by_known : (known known' : Option (List ℕ)) → Consumes known known' given.taken
        → IfSome known (λ bytes. IfSome known' (λ rest. IsFirst bytes line' rest))
        → Keeps (prepend_known waits (to_be_said Reading say form count line known))
        (prepend_known waits (to_be_said Saying say form count line' known'))
    by_known None known' consumed first = tt
    by_known (Some bytes) None consumed first = absurd consumed
    by_known (Some bytes) (Some rest) consumed first =
        ap (λ lines. waits ++ said_from say form.first count lines)
        (sym (first_given form.last count bytes line' rest not_over given.within first))

both_true : (a b : Bool) → (a && b) ≡ true → (a ≡ true) × (b ≡ true)
both_true true b is = (refl, is)
both_true false b is = cc

one_passed : (say : spec.Saying) (form : Form) (count : ℕ) (line bytes : List ℕ)
    → nat_lt (count + 1) form.first ≡ true → nat_le (length line) most_bytes ≡ true
    → said_from say form.first count (up_to_long line (read_lines form.last (count + 1) (lines_of bytes)))
    ≡ said_of_bytes say form (count + 1) bytes
unfolding said_from
one_passed say form count line bytes before short =
    rw (short, before, short) refl

-- A line before the first that is given.
pub passes : (waits : List ℕ) (stage : Stage) (say : spec.Saying) (form : Form) (count : ℕ) (line : List ℕ)
    (known : Option (List ℕ)) (is_short : Bool) → stage ≡ Saying → is_short ≡ nat_le (length line) most_bytes
    → (nat_lt (count + 1) form.first && is_short) ≡ true
    → Keeps (prepend_known waits (to_be_said stage say form count line known))
    (prepend_known waits (to_be_said Reading say form (count + 1) line known))
passes waits stage say form count line known is_short says short passed =
    let tests = both_true (nat_lt (count + 1) form.first) is_short passed in
    subst (λ stage. Keeps (prepend_known waits (to_be_said stage say form count line known))
    (prepend_known waits (to_be_said Reading say form (count + 1) line known))) (sym says)
    (by_known known tests.0 (sym short ∙ tests.1))
  where
    by_known : (known : Option (List ℕ)) → nat_lt (count + 1) form.first ≡ true
        → nat_le (length line) most_bytes ≡ true
        → Keeps (prepend_known waits (to_be_said Saying say form count line known))
        (prepend_known waits (to_be_said Reading say form (count + 1) line known))
    by_known None before small = tt
    by_known (Some bytes) before small =
        ap (λ l. waits ++ l) (sym (one_passed say form count line bytes before small))

-- Behind the first line all are said.
from_first : (say : spec.Saying) (first count : ℕ) (lines : List (List ℕ)) → first ≤ count + 1
    → said_from say first count lines ≡ say (count + 1) lines
unfolding said_from
from_first say first count [] behind = refl
from_first say first count (line ∷ lines) behind = rw (lt-leb (suc (count + 1)) first (omega arith)) refl

-- The same is said of a line and those behind it.
again_front : (say say' : spec.Saying) (first count : ℕ) (line : List ℕ) (others : List (List ℕ))
    → (nat_lt (count + 1) first && nat_le (length line) most_bytes) ≡ false → SaysAgain say say' (count + 1) line
    → said_from say' first count (line ∷ others) ≡ said_from say first count (line ∷ others)
unfolding said_from
again_front say say' first count line others not_before again = rw not_before (again others)

again_known : (say say' : spec.Saying) (form : Form) (count : ℕ) (line : List ℕ) (known : Option (List ℕ))
    → (nat_lt (count + 1) form.first && nat_le (length line) most_bytes) ≡ false
    → SaysAgain say say' (count + 1) line
    → Keeps (prepend_known [] (to_be_said Saying say form count line known))
    (prepend_known [] (to_be_said Saying say' form count line known))
again_known say say' form count line None not_before again = tt
again_known say say' form count line (Some bytes) not_before again = by_test (nat_le (length line) most_bytes)
  where
    later : List (List ℕ)
    later = read_lines form.last (count + 1) (lines_of bytes)

    by_test : (is_short : Bool) → said_from say' form.first count (cond is_short (line ∷ later) (line ∷ []))
        ≡ said_from say form.first count (cond is_short (line ∷ later) (line ∷ []))
    by_test true = again_front say say' form.first count line later not_before again
    by_test false = again_front say say' form.first count line [] not_before again

pub said_again : (waits waits' : List ℕ) (stage stage' : Stage) (say say' : spec.Saying) (form form' : Form)
    (count count' : ℕ) (line line' : List ℕ) (known known' : Option (List ℕ)) (is_short : Bool) → waits ≡ []
    → waits' ≡ [] → stage ≡ Saying → stage' ≡ stage → form' ≡ form → count' ≡ count → line' ≡ line → known' ≡ known
    → is_short ≡ nat_le (length line) most_bytes → (nat_lt (count + 1) form.first && is_short) ≡ false
    → SaysAgain say say' (count + 1) line
    → Keeps (prepend_known waits (to_be_said stage say form count line known))
    (prepend_known waits' (to_be_said stage' say' form' count' line' known'))
said_again waits waits' stage stage' say say' form form' count count' line line' known known' is_short none none'
    is_saying same_stage same_form same_count same_line same_known short not_before again =
    rw (none, none', same_stage, is_saying, same_form, same_count, same_line, same_known)
    (again_known say say' form count line known (rw (← short) not_before) again)

front_said : (say say' : spec.Saying) (first count : ℕ) (line waits : List ℕ) (others : List (List ℕ))
    → (nat_lt (count + 1) first && nat_le (length line) most_bytes) ≡ false
    → SaysLine say say' (count + 1) line [] waits
    → said_from say first count (line ∷ others) ≡ waits ++ say' (count + 1 + 1) others
unfolding said_from
front_said say say' first count line waits others not_before says =
    rw not_before (says.said others ∙ ap (λ l. l ++ say' (count + 1 + 1) others) (sym says.added))

first_passed : (number first : ℕ) → (nat_lt number first && true) ≡ false → first ≤ number + 1
first_passed number first not_before = grind (arith, nat_tests)

-- A line was said.
one_known : (waits' : List ℕ) (say say' : spec.Saying) (form : Form) (count : ℕ) (line : List ℕ)
    (known : Option (List ℕ)) (is_short : Bool) → is_short ≡ nat_le (length line) most_bytes
    → (nat_lt (count + 1) form.first && is_short) ≡ false → SaysLine say say' (count + 1) line [] waits'
    → Keeps (prepend_known [] (to_be_said Saying say form count line known))
    (prepend_known waits' (to_be_said (cond is_short Reading Ending) say' form (count + 1) line known))
one_known waits' say say' form count line None is_short short not_before says = tt
one_known waits' say say' form count line (Some bytes) true short not_before says =
    let later = read_lines form.last (count + 1) (lines_of bytes) in
    ap (λ l. waits' ++ l)
    (from_first say' form.first (count + 1) later (first_passed (count + 1) form.first not_before))
    ∙ sym (front_said say say' form.first count line waits' later (rw (← short) not_before) says)
    ∙ ap (λ b. said_from say form.first count (cond b (line ∷ later) (line ∷ []))) short
one_known waits' say say' form count line (Some bytes) false short not_before says =
    sym (front_said say say' form.first count line waits' [] (rw (← short) not_before) says)
    ∙ ap (λ b. said_from say form.first count (cond b
    (line ∷ read_lines form.last (count + 1) (lines_of bytes)) (line ∷ []))) short

pub one_said : (waits waits' : List ℕ) (stage stage' : Stage) (say say' : spec.Saying) (form form' : Form) (count : ℕ)
    (line line' : List ℕ) (known known' : Option (List ℕ)) (is_short : Bool) → waits ≡ [] → stage ≡ Saying
    → stage' ≡ cond is_short Reading Ending → form' ≡ form → line' ≡ line → known' ≡ known
    → is_short ≡ nat_le (length line) most_bytes → (nat_lt (count + 1) form.first && is_short) ≡ false
    → SaysLine say say' (count + 1) line [] waits'
    → Keeps (prepend_known waits (to_be_said stage say form count line known))
    (prepend_known waits' (to_be_said stage' say' form' (count + 1) line' known'))
one_said waits waits' stage stage' say say' form form' count line line' known known' is_short none is_saying next
    same_form same_line same_known short not_before says =
    rw (none, is_saying, next, same_form, same_line, same_known)
    (one_known waits' say say' form count line known is_short short not_before says)
