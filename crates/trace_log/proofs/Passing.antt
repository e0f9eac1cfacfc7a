-- The digits of a number, one after another.
use Rattle.std.specs.Prelude.{◌*◌, ◌^◌}
use Rattle.trace_log.proofs.Words.{◌≡◌, ℕ, ◌+◌, ◌<◌, ◌≤◌, true, List, [], ◌∷◌, ◌++◌, length}
use Rattle.trace_log.proofs.Words.{get_or, take, zero, suc, refl, sym, ap, ◌∙◌, arith}
use Rattle.trace_log.proofs.Words.{all_ascii_digits, most_number}
use Rattle.std.proofs.lemmas.List.Folds.{list_all_more}
use Rattle.std.proofs.lemmas.List.{length-take-le}
use Rattle.std.proofs.lemmas.Bool.{le-leb, and_from}
use Rattle.std.specs.Char.{is_ascii_digit}
use Rattle.std.proofs.Common.{subst}
use Rattle.std.proofs.lemmas.Int.Digits.{digits_value_more}
use Rattle.std.proofs.lemmas.Fmt.{decimal-digits_value}
use Rattle.std.proofs.lemmas.Str.{digit_value_digit}
use Rattle.std.specs.Fmt.{decimal}
use Rattle.std.specs.Char.{digit_value}
use Rattle.std.specs.Str.Parse.{digits_value}
use Rattle.std.proofs.Math.ListN.{set}
use Rattle.json.specs.Spaced.{IsGap}
use Rattle.trace_log.proofs.Numbers.{own}
use Rattle.trace_log.proofs.Words.{Member, append_assoc, append-nil, take_all}
use Rattle.trace_log.specs.Look.{IsMember, AreMembers, renumbered, AreNoLower, Looks}

-- One digit more.
pub digits_more : (text : List ℕ) (i : ℕ) → i < length text → 48 ≤ get_or text i 0 → get_or text i 0 ≤ 57
    → all_ascii_digits (take i text) ≡ true → all_ascii_digits (take (i + 1) text) ≡ true
digits_more text i within low high before =
    let here : is_ascii_digit (get_or text i 0) ≡ true = and_from _ _ (le-leb 48 (get_or text i 0) low)
    (le-leb (get_or text i 0) 57 high) in
    list_all_more is_ascii_digit text i 0 within ∙ and_from _ _ before here

pub value_more : (text : List ℕ) (i digit : ℕ) → i < length text → get_or text i 0 ≡ 48 + digit → digit ≤ 9
    → digits_value 10 (take (i + 1) text) ≡ digits_value 10 (take i text) * 10 + digit
value_more text i digit within is low =
    let value : digit_value (get_or text i 0) + 48 ≡ get_or text i 0 =
    digit_value_digit (get_or text i 0) (omega arith, omega arith) in
    digits_value_more 10 text i within ∙ ap (λ n. digits_value 10 (take i text) * 10 + n) (omega arith)

first-take : (text : List ℕ) (i : ℕ) → 0 < i → get_or (take i text) 0 0 ≡ get_or text 0 0
first-take [] (suc i) some = refl
first-take (byte ∷ bytes) (suc i) some = refl
first-take text zero some = absurd (omega arith)

-- Digits without a 0 before others are those of their value.
pub digits_are : (text : List ℕ) (i number : ℕ) → 0 < i → i ≤ length text → number ≡ digits_value 10 (take i text)
    → all_ascii_digits (take i text) ≡ true → number ≤ most_number → (get_or text 0 0 ≡ 48 → i ≡ 1)
    → take i text ≡ decimal number
digits_are text i number some within is digits most first =
    let long = length-take-le i text within in
    let small : digits_value 10 (take i text) < 2 ^ 64 = omega (arith, is, most) in
    let lone : get_or (take i text) 0 0 ≡ 48 → length (take i text) ≡ 1 =
    λ zero_first. long ∙ first (sym (first-take text i some) ∙ zero_first) in
    sym (ap decimal is ∙ decimal-digits_value own (take i text) digits (omega (arith, long)) lone small)

-- What a look passes of a member, byte by byte.
pub member_is : (lead : ℕ) (name : List ℕ) (number : ℕ) (text one two three four five six front rest : List ℕ)
    (gap gap' : List ℕ) → text ≡ lead ∷ one → IsGap gap → one ≡ gap ++ two → two ≡ 34 ∷ three → three ≡ name ++ four
    → four ≡ 34 ∷ five → five ≡ 58 ∷ six → IsGap gap' → six ≡ gap' ++ (front ++ rest) → front ≡ decimal number
    → number ≤ most_number → IsMember lead name number text rest
member_is lead name number text one two three four five six front rest gap gap' at is_gap at_gap at_quote at_name
    at_end at_colon is_gap' at_gap' digits most = record {
      before = gap;
      between = gap';
      gap_before = is_gap;
      gap_between = is_gap';
      most = most;
      parts = rw (at, at_gap, at_quote, at_name, at_end, at_colon, at_gap', digits) refl;
    }

-- The numbers of a look, member by member.
pub renumbered-next : (clock : List Member) (numbers : List ℕ) (i number : ℕ) (d : Member) → i < length clock
    → i < length numbers → renumbered (take (suc i) clock) (set numbers i number)
    ≡ renumbered (take i clock) numbers ++ (record { name = (get_or clock i d).name; number = number }) ∷ []
renumbered-next [] numbers i number d within room = absurd (omega arith)
renumbered-next (first ∷ others) [] i number d within room = absurd (omega arith)
renumbered-next (first ∷ others) (n ∷ numbers) zero number d within room = refl
renumbered-next (first ∷ others) (n ∷ numbers) (suc i) number d within room =
    ap (λ (l : List Member). (record { name = first.name; number = n }) ∷ l)
    (renumbered-next others numbers i number d (omega arith) (omega arith))

pub no_lower-next : (clock : List Member) (numbers : List ℕ) (i number : ℕ) (d : Member) → i < length clock
    → i < length numbers → (get_or clock i d).number ≤ number → AreNoLower (take i clock) numbers
    → AreNoLower (take (suc i) clock) (set numbers i number)
no_lower-next [] numbers i number d within room least before = absurd (omega arith)
no_lower-next (first ∷ others) [] i number d within room least before = absurd (omega arith)
no_lower-next (first ∷ others) (n ∷ numbers) zero number d within room least before = (least, tt)
no_lower-next (first ∷ others) (n ∷ numbers) (suc i) number d within room least before =
    (before.0, no_lower-next others numbers i number d (omega arith) (omega arith) least before.1)

-- What a look has passed: whatever members the rest spells, the text spells them after those before.
abbrev pub HasPassed : List Member → List ℕ → ℕ → List ℕ → List ℕ → Type 0
HasPassed clock numbers lead text rest =
    (more : List Member) → AreMembers lead more rest → AreMembers 123 (renumbered clock numbers ++ more) text

pub passed-none : (clock : List Member) (numbers text : List ℕ) → HasPassed (take 0 clock) numbers 123 text text
passed-none clock numbers text more are = are

pub passed-next : (clock : List Member) (numbers : List ℕ) (i number lead : ℕ) (d : Member) (text rest after : List ℕ)
    → i < length clock → i < length numbers → HasPassed (take i clock) numbers lead text rest
    → IsMember lead (get_or clock i d).name number rest after
    → HasPassed (take (suc i) clock) (set numbers i number) 44 text after
passed-next clock numbers i number lead d text rest after within room before is more are =
    let one : Member = record { name = (get_or clock i d).name; number = number } in
    subst (λ (l : List Member). AreMembers 123 l text) (
    sym (ap (λ l. l ++ more) (renumbered-next clock numbers i number d within room)
    ∙ append_assoc (renumbered (take i clock) numbers) (one ∷ []) more)
    ) (before (one ∷ more) (after, is, are))

-- A look at the end of the members.
pub looks : (clock : List Member) (numbers : List ℕ) (i lead : ℕ) (text rest : List ℕ) → length clock ≤ i
    → HasPassed (take i clock) numbers lead text rest → AreNoLower (take i clock) numbers → rest ≡ 125 ∷ []
    → Looks text clock numbers
looks clock numbers i lead text rest end passed no_lower closes =
    let all = take_all i clock end in
    record {
      members = subst (λ l. AreMembers 123 l text)
          (append-nil (renumbered (take i clock) numbers) ∙ ap (λ l. renumbered l numbers) all) (passed [] closes);
      no_lower = subst (λ l. AreNoLower l numbers) all no_lower;
    }

pub lone_byte : (bytes : List ℕ) (byte : ℕ) → length bytes ≡ 1 → get_or bytes 0 0 ≡ byte → bytes ≡ byte ∷ []
lone_byte [] byte long is = absurd (omega (arith, long))
lone_byte (first ∷ []) byte long is = ap (λ b. b ∷ []) is
lone_byte (first ∷ second ∷ others) byte long is = absurd (omega (arith, long))
