-- The numbers of a clock whose names stand once, and the same names with other numbers.
use Rattle.std.proofs.Common.{◌≡◌, ◌∙◌, ◌+◌, ◌<◌, ◌≤◌, ℕ, zero, suc, Bool, true, false, cond, max, List, [], ◌∷◌, ◌++◌}
use Rattle.std.proofs.Common.{length, take, drop, get_or, refl, sym, ap, subst, arith, append_assoc}
use Rattle.std.proofs.Common.{Ok}
use Rattle.std.proofs.Common.{add-one}
use Rattle.std.proofs.Math.ListN.{set}
use Rattle.std.proofs.Math.Dec.{ltb}
use Rattle.std.proofs.Math.Seq.{take-suc}
use Rattle.std.proofs.lemmas.Bool.{le-ltb, or_parts, false_from_ne_true}
use Rattle.std.proofs.lemmas.Slice.Eq.{bytes_eq-Decides}
use Rattle.std.specs.List.{list_any}
use Rattle.std.specs.Str.{bytes_eq}
use Rattle.json.specs.Print.{escape, escape_byte}
use Rattle.json.proofs.Printed.Strings.{escape_byte_plain}
use Rattle.trace_log.specs.declared.event.Member.{Member as OwnMember}
use Rattle.trace_log.specs.Clock.{Member, are_distinct}
unfoldable use Rattle.trace_log.specs.Clock.{number_of}
use Rattle.trace_log.specs.Names.{names_in}
use Rattle.trace_log.specs.Look.{renumbered, AreNoLower, ArePlain, Looks, LooksOn, Renumbers}
use Rattle.std.proofs.Common.{Result}
use Rattle.trace_log.specs.declared.fault.LogFaultKind.{LogFaultKind}
use Rattle.trace_log.specs.Event.{clock_in_text}
use Rattle.trace_log.specs.Order.{falls}
use Rattle.trace_log.specs.PlainEvents.{SpellsEvent, clock_beside}
use Rattle.trace_log.specs.Views.{seen_member, seen_clock}
use Rattle.trace_log.proofs.Quick.{clock_spelled}

other_name : (a b : List ℕ) → bytes_eq a b ≡ false → bytes_eq b a ≡ false
other_name a b differ = false_from_ne_true (bytes_eq b a) (λ same.
    let is : bytes_eq a b ≡ true = (bytes_eq-Decides a b).1 (sym ((bytes_eq-Decides b a).0 same)) in grind arith)

-- A name that stands nowhere has no number.
absent : (name : List ℕ) (clock : List Member) → list_any (bytes_eq name) (names_in clock) ≡ false
    → number_of name clock ≡ 0
unfolding number_of
absent name [] none = refl
absent name (first ∷ others) none =
    let parts = or_parts (bytes_eq name first.name) (list_any (bytes_eq name) (names_in others)) none in
    rw (other_name name first.name parts.0) (absent name others parts.1)

differs_at : (name : List ℕ) (clock : List Member) (i : ℕ) (d : Member) → i < length clock
    → list_any (bytes_eq name) (names_in clock) ≡ false → bytes_eq name (get_or clock i d).name ≡ false
differs_at name [] i d within none = absurd (omega arith)
differs_at name (first ∷ others) zero d within none = (or_parts (bytes_eq name first.name) _ none).0
differs_at name (first ∷ others) (suc i) d within none =
    differs_at name others i d (omega arith) (or_parts (bytes_eq name first.name) _ none).1

-- The number of a name that stands once is the one beside it.
pub number_at : (clock : List Member) (i : ℕ) (d : Member) → i < length clock
    → are_distinct (names_in clock) ≡ true
    → number_of (get_or clock i d).name clock ≡ (get_or clock i d).number
unfolding number_of
number_at [] i d within distinct = absurd (omega arith)
number_at (first ∷ others) zero d within distinct =
    let none : list_any (bytes_eq first.name) (names_in others) ≡ false = grind arith in
    rw ((bytes_eq-Decides first.name first.name).1 refl, absent first.name others none) (omega arith)
number_at (first ∷ others) (suc i) d within distinct =
    let none : list_any (bytes_eq first.name) (names_in others) ≡ false = grind arith in
    let rest : are_distinct (names_in others) ≡ true = grind arith in
    let here : i < length others = omega arith in
    rw (differs_at first.name others i d here none) (number_at others i d here rest)

same_names : (clock : List Member) (numbers : List ℕ) → length clock ≤ length numbers
    → names_in (renumbered clock numbers) ≡ names_in clock
same_names [] numbers few = refl
same_names (first ∷ others) [] few = absurd (omega arith)
same_names (first ∷ others) (n ∷ numbers) few =
    ap (λ l. first.name ∷ l) (same_names others numbers (omega arith))

pub renumbered_at : (clock : List Member) (numbers : List ℕ) (i : ℕ) (d : Member) → i < length clock
    → i < length numbers → get_or (renumbered clock numbers) i d
    ≡ record { name = (get_or clock i d).name; number = get_or numbers i 0 }
renumbered_at [] numbers i d within room = absurd (omega arith)
renumbered_at (first ∷ others) [] i d within room = absurd (omega arith)
renumbered_at (first ∷ others) (n ∷ numbers) zero d within room = refl
renumbered_at (first ∷ others) (n ∷ numbers) (suc i) d within room =
    renumbered_at others numbers i d (omega arith) (omega arith)

pub length-renumbered : (clock : List Member) (numbers : List ℕ) → length clock ≤ length numbers
    → length (renumbered clock numbers) ≡ length clock
length-renumbered [] numbers few = refl
length-renumbered (first ∷ others) [] few = absurd (omega arith)
length-renumbered (first ∷ others) (n ∷ numbers) few =
    ap (λ k. suc k) (length-renumbered others numbers (omega arith))

-- The number at the place of a name rises.
pub rises_at : (name : List ℕ) (clock : List Member) (numbers : List ℕ) (i : ℕ) (d : Member) → i < length clock
    → are_distinct (names_in clock) ≡ true → length clock ≤ length numbers → (get_or clock i d).name ≡ name
    → (get_or clock i d).number < get_or numbers i 0
    → number_of name clock < number_of name (renumbered clock numbers)
rises_at name clock numbers i d within distinct few named rises =
    let before = number_at clock i d within distinct in
    let at = renumbered_at clock numbers i d within (omega arith) in
    let long = length-renumbered clock numbers few in
    let after = number_at (renumbered clock numbers) i d (omega (arith, long))
    (ap are_distinct (same_names clock numbers few) ∙ distinct) in
    let here : number_of name clock ≡ (get_or clock i d).number =
    ap (λ n. number_of n clock) (sym named) ∙ before in
    let there : number_of name (renumbered clock numbers) ≡ get_or numbers i 0 =
    ap (λ n. number_of n (renumbered clock numbers)) (sym named ∙ sym (ap (λ (m : Member). m.name) at)) ∙ after
    ∙ ap (λ (m : Member). m.number) at in
    omega (arith, here, there, rises)

-- The number at the place of a name is the name's.
pub own_at : (name : List ℕ) (clock : List Member) (numbers : List ℕ) (i : ℕ) (d : Member) → i < length clock
    → are_distinct (names_in clock) ≡ true → length clock ≤ length numbers → (get_or clock i d).name ≡ name
    → get_or numbers i 0 ≡ number_of name (renumbered clock numbers)
own_at name clock numbers i d within distinct few named =
    let at = renumbered_at clock numbers i d within (omega arith) in
    let long = length-renumbered clock numbers few in
    let after = number_at (renumbered clock numbers) i d (omega (arith, long))
    (ap are_distinct (same_names clock numbers few) ∙ distinct) in
    sym (ap (λ n. number_of n (renumbered clock numbers)) (sym named ∙ sym (ap (λ (m : Member). m.name) at)) ∙ after
    ∙ ap (λ (m : Member). m.number) at)

at_least : (name : List ℕ) (number : ℕ) (before after : List Member)
    → number ≤ number_of name (before ++ (record { name = name; number = number }) ∷ after)
unfolding number_of
at_least name number [] after = rw ((bytes_eq-Decides name name).1 refl) (omega arith)
at_least name number (first ∷ others) after =
    by_name (bytes_eq first.name name) first.number _ (at_least name number others after)
  where
    by_name : (b : Bool) (m n : ℕ) → number ≤ n → number ≤ cond b (max m n) n
    by_name true m n least = omega arith
    by_name false m n least = least

none_falls : (before clock : List Member) (numbers : List ℕ) → AreNoLower clock numbers
    → falls clock (before ++ renumbered clock numbers) ≡ false
none_falls before [] numbers least = refl
none_falls before (first ∷ others) [] least = absurd least
none_falls before (first ∷ others) (n ∷ numbers) least =
    let one : Member = record { name = first.name; number = n } in
    let all = before ++ one ∷ renumbered others numbers in
    let here : ltb (number_of first.name all) first.number ≡ false =
    le-ltb (number_of first.name all) first.number
    (omega (arith, at_least first.name n before (renumbered others numbers), least.0)) in
    let more = subst (λ l. falls others l ≡ false) (append_assoc before (one ∷ []) (renumbered others numbers))
    (none_falls (before ++ one ∷ []) others numbers least.1) in
    rw (here, more) refl

few : (clock : List Member) (numbers : List ℕ) → AreNoLower clock numbers → length clock ≤ length numbers
few [] numbers least = omega arith
few (first ∷ others) [] least = absurd least
few (first ∷ others) (n ∷ numbers) least = omega (arith, few others numbers least.1)

plain_again : (clock : List Member) (numbers : List ℕ) → ArePlain clock → ArePlain (renumbered clock numbers)
plain_again [] numbers plain = tt
plain_again (first ∷ others) [] plain = tt
plain_again (first ∷ others) (n ∷ numbers) plain = (plain.0, plain_again others numbers plain.1)

-- A text that a look passed.
pub text_renumbered : (clock : List Member) (text numbers : List ℕ) → Looks text clock numbers → 0 < length clock
    → are_distinct (names_in clock) ≡ true → ArePlain clock → clock_in_text text ≡ Ok (renumbered clock numbers)
text_renumbered [] text numbers looked some distinct plain = absurd (omega (arith, some))
text_renumbered (first ∷ others) text [] looked some distinct plain = absurd looked.no_lower
text_renumbered (first ∷ others) text (n ∷ numbers) looked some distinct plain =
    let clock = first ∷ others in
    clock_spelled (record { name = first.name; number = n }) (renumbered others numbers) text looked.members
    (plain_again clock (n ∷ numbers) plain)
    (ap are_distinct (same_names clock (n ∷ numbers) (few clock (n ∷ numbers) looked.no_lower)) ∙ distinct)

-- The same beside the host and the text.
pub beside_renumbered : (clock : List Member) (line host place text numbers : List ℕ) → SpellsEvent line host place text
    → Looks place clock numbers → 0 < length clock → are_distinct (names_in clock) ≡ true → ArePlain clock
    → clock_beside host text line ≡ Ok (renumbered clock numbers)
beside_renumbered clock line host place text numbers spells looked some distinct plain =
    let long = few clock numbers looked.no_lower in
    spells (renumbered clock numbers) (record {
      some = omega (arith, length-renumbered clock numbers long, some);
      members = looked.members;
      plain = plain_again clock numbers plain;
      distinct = ap are_distinct (same_names clock numbers long) ∙ distinct;
    })

some_member : (name : List ℕ) (clock : List Member) (numbers : List ℕ)
    → number_of name clock < number_of name (renumbered clock numbers) → 0 < length clock
unfolding number_of
some_member name [] numbers rises = absurd (omega (arith, rises))
some_member name (first ∷ others) numbers rises = omega arith

-- A look at the next clock of a host.
pub looks_on : (name : List ℕ) (clock : List Member) (spelled : Result (List Member) LogFaultKind) (numbers : List ℕ)
    (is_plain : Bool) → (is_plain ≡ true → ArePlain clock) → are_distinct (names_in clock) ≡ true
    → Renumbers is_plain spelled clock numbers
    → (length clock ≤ length numbers → number_of name clock < number_of name (renumbered clock numbers))
    → LooksOn name clock spelled numbers
looks_on name clock spelled numbers is_plain plain distinct looked rises =
    let long = few clock numbers looked.no_lower in
    record {
      is = looked.is (some_member name clock numbers (rises long)) distinct plain;
      rises = rises long;
      none_falls = none_falls [] clock numbers looked.no_lower;
      as_many = long;
    }

-- Names stay where numbers change.
pub distinct_again : (clock : List Member) (numbers : List ℕ) → length clock ≤ length numbers
    → are_distinct (names_in clock) ≡ true → are_distinct (names_in (renumbered clock numbers)) ≡ true
distinct_again clock numbers few distinct = ap are_distinct (same_names clock numbers few) ∙ distinct

pub plain_renumbered : (clock : List Member) (numbers : List ℕ) → ArePlain clock → ArePlain (renumbered clock numbers)
plain_renumbered = plain_again

-- One number more is put into its place.
pub renumber-next : (clock : List Member) (numbers : List ℕ) (i : ℕ) (d : Member) → i < length clock
    → i < length numbers
    → set (renumbered (take i clock) numbers ++ drop i clock) i
    (record {
      name = (get_or (renumbered (take i clock) numbers ++ drop i clock) i d).name;
      number = get_or numbers i
          0;
    })
    ≡ renumbered (take (suc i) clock) numbers ++ drop (suc i) clock
renumber-next [] numbers i d within room = absurd (omega arith)
renumber-next (first ∷ others) [] i d within room = absurd (omega arith)
renumber-next (first ∷ others) (n ∷ numbers) zero d within room = refl
renumber-next (first ∷ others) (n ∷ numbers) (suc i) d within room =
    ap (λ (l : List Member). (record { name = first.name; number = n }) ∷ l)
    (renumber-next others numbers i d (omega arith) (omega arith))

pub seen_clock-set : (clock : List OwnMember) (i : ℕ) (one : OwnMember)
    → seen_clock (set clock i one) ≡ set (seen_clock clock) i (seen_member one)
seen_clock-set [] i one = refl
seen_clock-set (first ∷ others) zero one = refl
seen_clock-set (first ∷ others) (suc i) one = ap (λ l. seen_member first ∷ l) (seen_clock-set others i one)

-- A name spelled as it is, one byte more.
escape-append : (front back : List ℕ) → escape (front ++ back) ≡ escape front ++ escape back
escape-append [] back = refl
escape-append (byte ∷ front) back =
    ap (λ l. escape_byte byte ++ l) (escape-append front back)
    ∙ sym (append_assoc (escape_byte byte) (escape front) (escape back))

pub plain-next : (name : List ℕ) (i : ℕ) → i < length name → 32 ≤ get_or name i 0 → (get_or name i 0 ≡ 34 → ⊥)
    → (get_or name i 0 ≡ 92 → ⊥) → escape (take i name) ≡ take i name → escape (take (i + 1) name) ≡ take (i + 1) name
plain-next name i within graphic no_quote no_backslash before =
    let next : take (i + 1) name ≡ take i name ++ get_or name i 0 ∷ [] = rw add-one (take-suc name i 0 within) in
    let here = escape_byte_plain (get_or name i 0) no_quote no_backslash graphic in
    ap escape next ∙ escape-append (take i name) (get_or name i 0 ∷ [])
    ∙ ap (λ l. l ++ (escape_byte (get_or name i 0) ++ [])) before
    ∙ ap (λ l. take i name ++ (l ++ [])) here ∙ sym next

pub ArePlain-append : (front back : List Member) → ArePlain front → ArePlain back → ArePlain (front ++ back)
ArePlain-append [] back plain plain' = plain'
ArePlain-append (first ∷ others) back plain plain' = (plain.0, ArePlain-append others back plain.1 plain')
