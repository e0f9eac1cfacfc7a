-- The members of a clock, one after another.
use Rattle.std.proofs.Common.{◌≡◌, ◌∙◌, ℕ, ◌+◌, ◌<◌, ◌≤◌, List, [], ◌∷◌, ◌++◌, length, map, drop, get_or, refl, sym, ap, ap₂}
use Rattle.std.proofs.Common.{arith, Global, rules}
use Rattle.std.proofs.lemmas.List.{drop_more, map-append, drop_all, get_or-map, length-map}
use Rattle.std.specs.Borrow.{Bor}
use Rattle.std.specs.Fmt.{decimal}
use Rattle.json.specs.Json.{Json, number, Members, no_members, member}
use Rattle.json.specs.Tree.{HasNumbers, MembersHaveNumbers}
use Rattle.json.specs.Value.{members_of, members_view, value_view}
use Rattle.json.specs.declared.value.Value.{Value, the_lemmas}
use Rattle.json.specs.declared.value.Value.TheVariants.{Number}
use Rattle.trace_log.specs.Fields.{members_from}
use Rattle.wullaphi_record.specs.Recorded.{Recording}
use Rattle.wullaphi_record.specs.Logs.{fields_of}

-- Members, and others behind them.
abbrev pub joined : Members → Members → Members
joined no_members others = others
joined (member name value rest) others = member name value (joined rest others)

joined_none : (all : Members) → joined all no_members ≡ all
joined_none no_members = refl
joined_none (member name value rest) = ap (member name value) (joined_none rest)

joined_push : (front : List (Bor (List ℕ) × Json)) (one : Bor (List ℕ) × Json) (others : Members)
    → joined (members_of (front ++ one ∷ [])) others ≡ joined (members_of front) (member one.0.now one.1 others)
joined_push [] one others = refl
joined_push (first ∷ front) one others = ap (member first.0.now first.1) (joined_push front one others)

pub numbers_push : (front : List (Bor (List ℕ) × Json)) (one : Bor (List ℕ) × Json)
    → MembersHaveNumbers (members_of front) → HasNumbers one.1 → MembersHaveNumbers (members_of (front ++ one ∷ []))
numbers_push [] one before now = (now, before)
numbers_push (first ∷ front) one before now = (before.0, numbers_push front one before.1 now)

-- The fields from a place on.
next_field : (all : List Recording) (numbers : List ℕ) (k : ℕ) (d : Recording) → k < length all → k < length numbers
    → members_from (fields_of (drop k all) (drop k numbers))
    ≡ member (get_or all k d).name (number (decimal (get_or numbers k 0)))
    (members_from (fields_of (drop (k + 1) all) (drop (k + 1) numbers)))
next_field all numbers k d within inside =
    ap₂ (λ rs ns. members_from (fields_of rs ns)) (drop_more all k d within) (drop_more numbers k 0 inside)

pub all_joined : (all : List Recording) (numbers : List ℕ) (k : ℕ) (front : Members) → length all ≤ k
    → joined front (members_from (fields_of (drop k all) (drop k numbers))) ≡ front
all_joined all numbers k front end =
    ap (λ rs. joined front (members_from (fields_of rs (drop k numbers)))) (drop_all k all end) ∙ joined_none front

pub pushed : (all : List Recording) (numbers : List ℕ) (k : ℕ) (d : Recording)
    (front : List (Bor (List ℕ) × Json)) (one : Bor (List ℕ) × Json) → k < length all → k < length numbers
    → one.0.now ≡ (get_or all k d).name → one.1 ≡ number (decimal (get_or numbers k 0))
    → joined (members_of front) (members_from (fields_of (drop k all) (drop k numbers))) ≡ members_from (fields_of all numbers)
    → joined (members_of (front ++ one ∷ [])) (members_from (fields_of (drop (k + 1) all) (drop (k + 1) numbers)))
    ≡ members_from (fields_of all numbers)
pushed all numbers k d front one within inside name_is value_is before =
    let rest = members_from (fields_of (drop (k + 1) all) (drop (k + 1) numbers)) in
    joined_push front one rest
    ∙ ap (λ n. joined (members_of front) (member n one.1 rest)) name_is
    ∙ ap (λ v. joined (members_of front) (member (get_or all k d).name v rest)) value_is
    ∙ ap (joined (members_of front)) (sym (next_field all numbers k d within inside)) ∙ before

pub view_number : (text : Bor (List ℕ)) → value_view {A = Global} (Number text) ≡ number text.now
view_number text = search (rules, the_lemmas)

-- A member, with its value as JSON.
abbrev pub seen : Bor (List ℕ) × Value Global → Bor (List ℕ) × Json
seen one = (one.0, value_view one.1)

pub view_members : (items : List (Bor (List ℕ) × Value Global)) (one : Bor (List ℕ) × Value Global)
    → members_view (items ++ one ∷ []) ≡ members_of (map seen items ++ (one.0, value_view one.1) ∷ [])
view_members items one = ap members_of (map-append seen items (one ∷ []))

-- The digits at a place are those of the number there.
pub digits_at : {X : Type 0} (f : X → List ℕ) (items : List X) (counts : List ℕ) (k : ℕ) (item : X)
    → map f items ≡ map decimal counts → k < length counts → item ≡ get_or items k item
    → f item ≡ decimal (get_or counts k 0)
digits_at f items counts k item same within is =
    let lengths = sym (length-map items f) ∙ ap length same ∙ length-map counts decimal in
    let within' : k < length items = omega (arith, lengths, within) in
    ap f is ∙ sym (get_or-map f items k item [] within') ∙ ap (λ l. get_or l k []) same
    ∙ get_or-map decimal counts k 0 [] within
