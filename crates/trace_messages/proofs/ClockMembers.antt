-- The members of a clock, one after another.
use Rattle.std.proofs.Common.{◌≡◌, ◌∙◌, ℕ, ◌+◌, ◌<◌, List, [], ◌∷◌, ◌++◌, length, map, drop, get_or, refl, sym}
use Rattle.std.proofs.Common.{ap}
use Rattle.std.proofs.Common.{true, false, nat_eq, arith}
use Rattle.std.proofs.lemmas.List.{drop_more, map-append, drop_all, get_or-map, length-map}
use Rattle.std.specs.Borrow.{Bor}
use Rattle.std.specs.Fmt.{decimal}
use Rattle.json.specs.Json.{Json, number, Members, no_members, member}
use Rattle.json.specs.Tree.{HasNumbers, MembersHaveNumbers}
use Rattle.json.specs.Value.{members_of, members_view, value_view}
use Rattle.json.specs.declared.value.Value.{Value, the_lemmas}
use Rattle.json.specs.declared.value.Value.TheVariants.{Number}
use Rattle.std.proofs.Common.{Global, rules}
use Rattle.trace_order.specs.State.{name_at}
use Rattle.trace_messages.specs.Printed.{members_from}

-- Members, and others behind them.
abbrev pub joined : Members → Members → Members
joined no_members others = others
joined (member name value rest) others = member name value (joined rest others)

joined_none : (all : Members) → joined all no_members ≡ all
joined_none no_members = refl
joined_none (member name value rest) = ap (member name value) (joined_none rest)

-- One member more.
pub joined_push : (front : List (Bor (List ℕ) × Json)) (one : Bor (List ℕ) × Json) (others : Members)
    → joined (members_of (front ++ one ∷ [])) others ≡ joined (members_of front) (member one.0.now one.1 others)
joined_push [] one others = refl
joined_push (first ∷ front) one others = ap (member first.0.now first.1) (joined_push front one others)

pub numbers_push : (front : List (Bor (List ℕ) × Json)) (one : Bor (List ℕ) × Json)
    → MembersHaveNumbers (members_of front) → HasNumbers one.1 → MembersHaveNumbers (members_of (front ++ one ∷ []))
numbers_push [] one before now = (now, before)
numbers_push (first ∷ front) one before now = (before.0, numbers_push front one before.1 now)

-- The members from the next host on.
pub next_counted : (names : List (List ℕ)) (host : ℕ) (counts : List ℕ) → host < length counts
    → nat_eq (get_or counts host 0) 0 ≡ false → members_from names host (drop host counts)
    ≡ member (name_at names host) (number (decimal (get_or counts host 0)))
    (members_from names (host + 1) (drop (host + 1) counts))
next_counted names host counts within some =
    ap (members_from names host) (drop_more counts host 0 within) ∙ rw some refl

pub next_passed : (names : List (List ℕ)) (host : ℕ) (counts : List ℕ) → host < length counts
    → nat_eq (get_or counts host 0) 0 ≡ true → members_from names host (drop host counts)
    ≡ members_from names (host + 1) (drop (host + 1) counts)
next_passed names host counts within none =
    ap (members_from names host) (drop_more counts host 0 within) ∙ rw none refl

pub all_counted : (names : List (List ℕ)) (host : ℕ) (counts : List ℕ) (front : Members) → length counts ≡ host
    → joined front (members_from names host (drop host counts)) ≡ front
all_counted names host counts front whole =
    ap (λ l. joined front (members_from names host l)) (drop_all host counts (omega (arith, whole))) ∙ joined_none front

pub pushed : (names : List (List ℕ)) (counts : List ℕ) (host : ℕ) (front : List (Bor (List ℕ) × Json))
    (one : Bor (List ℕ) × Json) → host < length counts → nat_eq (get_or counts host 0) 0 ≡ false
    → one.0.now ≡ name_at names host → one.1 ≡ number (decimal (get_or counts host 0))
    → joined (members_of front) (members_from names host (drop host counts)) ≡ members_from names 0 counts
    → joined (members_of (front ++ one ∷ [])) (members_from names (host + 1) (drop (host + 1) counts))
    ≡ members_from names 0 counts
pushed names counts host front one within some name_is value_is before =
    let rest = members_from names (host + 1) (drop (host + 1) counts) in
    joined_push front one rest
    ∙ ap (λ n. joined (members_of front) (member n one.1 rest)) name_is
    ∙ ap (λ v. joined (members_of front) (member (name_at names host) v rest)) value_is
    ∙ ap (joined (members_of front)) (sym (next_counted names host counts within some)) ∙ before

pub view_number : (text : Bor (List ℕ)) → value_view {A = Global} (Number text) ≡ number text.now
view_number text = search (rules, the_lemmas)

-- A member, with its value as JSON.
abbrev pub seen : Bor (List ℕ) × Value Global → Bor (List ℕ) × Json
seen one = (one.0, value_view one.1)

pub view_members : (items : List (Bor (List ℕ) × Value Global)) (one : Bor (List ℕ) × Value Global)
    → members_view (items ++ one ∷ []) ≡ members_of (map seen items ++ (one.0, value_view one.1) ∷ [])
view_members items one = ap members_of (map-append seen items (one ∷ []))

-- The digits at a place are those of the number there.
pub digits_at : {X : Type 0} (f : X → List ℕ) (items : List X) (counts : List ℕ) (host : ℕ) (item : X)
    → map f items ≡ map decimal counts → host < length counts → item ≡ get_or items host item
    → f item ≡ decimal (get_or counts host 0)
digits_at f items counts host item same within is =
    let lengths = sym (length-map items f) ∙ ap length same ∙ length-map counts decimal in
    let within' : host < length items = omega (arith, lengths, within) in
    ap f is ∙ sym (get_or-map f items host item [] within') ∙ ap (λ l. get_or l host []) same
    ∙ get_or-map decimal counts host 0 [] within
