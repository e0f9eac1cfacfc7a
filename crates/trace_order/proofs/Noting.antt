-- The ids that are noted, one after another.
use Rattle.trace_order.proofs.Words.{◌≡◌, ◌∙◌, ℕ, ◌+◌, ◌<◌, Bool, true, false, cond, List, [], ◌∷◌, ◌++◌, length, map}
use Rattle.trace_order.proofs.Words.{refl}
use Rattle.trace_order.proofs.Words.{sym, ap, get_or, get_or-map, Some, Option, is_among}
use Rattle.std.proofs.Common.{Result, Ok, Err, OnOk, OnErr, IsErr, IsErrAnd, is_err, option_map, zero, suc, ◌≤◌}
use Rattle.std.proofs.Common.{arith, eqb}
use Rattle.std.proofs.lemmas.Bool.{eqb-true, eqb-false}
use Rattle.std.proofs.Common.{None, is_some}
use Rattle.std.specs.Option.{option_or}
use Rattle.trace_order.specs.Ids.{AreNew, Second, first_at, id_at, is_known, is_second, second_at, second_in}
use Rattle.trace_order.specs.Ids.{with_announced}
use Rattle.std.proofs.Common.{◌||◌, take}
use Rattle.trace_order.specs.Sent.{sent_with}
use Rattle.std.proofs.lemmas.List.{get_or_push, map-append, take_more}
use Rattle.std.specs.Str.{bytes_eq}
use Rattle.std.proofs.lemmas.Slice.Eq.{bytes_eq-Decides}

pub or_assoc : (a b c : Bool) → ((a || b) || c) ≡ (a || (b || c))
or_assoc true b c = refl
or_assoc false b c = refl

or_true : (a : Bool) → (a || true) ≡ true
or_true true = refl
or_true false = refl

or_false : (a : Bool) → (a || false) ≡ a
or_false true = refl
or_false false = refl

among_push : (id : List ℕ) (ids : List (List ℕ)) (last : List ℕ)
    → is_among id (ids ++ last ∷ []) ≡ (is_among id ids || bytes_eq last id)
among_push id [] last = or_false (bytes_eq last id)
among_push id (first ∷ ids) last =
    ap (λ b. bytes_eq first id || b) (among_push id ids last)
    ∙ sym (or_assoc (bytes_eq first id) (is_among id ids) (bytes_eq last id))

-- One id more is among those so far.
pub among_more : (id : List ℕ) (ids : List (List ℕ)) (i : ℕ) → i < length ids
    → is_among id (take (i + 1) ids) ≡ (is_among id (take i ids) || bytes_eq (id_at ids i) id)
among_more id ids i within = ap (is_among id) (take_more ids i [] within) ∙ among_push id (take i ids) (id_at ids i)

pub item_is : {X : Type 0} (f : X → List ℕ) (items : List X) (i : ℕ) (item : X) → i < length items
    → item ≡ get_or items i item → id_at (map f items) i ≡ f item
item_is f items i item within is = get_or-map f items i item [] within ∙ ap f (sym is)

-- What a map has after one id more.
pub noted_more : {X : Type 0} (among same : Bool) (new old : X)
    → cond same new (cond among new old) ≡ cond (among || same) new old
noted_more true true new old = refl
noted_more true false new old = refl
noted_more false true new old = refl
noted_more false false new old = refl

pub noted_at : {X : Type 0} (f : X → List ℕ) (same : Bool) (new : X) (old : Option X)
    → option_map f (cond same (Some new) old) ≡ cond same (Some (f new)) (option_map f old)
noted_at f true new old = refl
noted_at f false new old = refl

pub true_left : (a b : Bool) → a ≡ true → (a || b) ≡ true
true_left true b is = refl
true_left false b is = cc

pub true_right : (a b : Bool) → b ≡ true → (a || b) ≡ true
true_right true b is = refl
true_right false b is = is

pub false_left : (a b : Bool) → (a || b) ≡ false → a ≡ false
false_left true b none = cc
false_left false b none = refl

as_next : {A : Type 0} (count : ℕ) (f : ℕ → A) → f (count + 1) ≡ f (suc count)
as_next count f =
    let same : count + 1 ≡ suc count = omega arith in
    ap f same

-- New ones are none of those before.
pub new_absent : (before : List ℕ → Bool) (ids : List (List ℕ)) (count : ℕ) → count ≤ length ids
    → ((place : ℕ) → place < count → is_second before ids place ≡ false) → (id : List ℕ)
    → is_among id (take count ids) ≡ true → before id ≡ false
new_absent before ids zero most new id there = cc
new_absent before ids (suc count) most new id there =
    by_last (bytes_eq (id_at ids count) id) refl
    (new_absent before ids count (omega (arith, most)) (λ place below. new place (omega (arith, below))) id)
  where
    more : is_among id (take (count + 1) ids) ≡ (is_among id (take count ids) || bytes_eq (id_at ids count) id)
    more = among_more id ids count (omega (arith, most))

    by_last : (b : Bool) → bytes_eq (id_at ids count) id ≡ b
        → (is_among id (take count ids) ≡ true → before id ≡ false) → before id ≡ false
    by_last true here earlier =
        sym (ap before ((bytes_eq-Decides (id_at ids count) id).0 here))
        ∙ false_left (before (id_at ids count)) (is_among (id_at ids count) (take count ids)) (new count (omega arith))
    by_last false differs earlier =
        earlier (sym (or_false (is_among id (take count ids)))
        ∙ sym (ap (λ b. is_among id (take count ids) || b) differs) ∙ sym more
        ∙ as_next count (λ n. is_among id (take n ids)) ∙ there)

-- What was added and is taken out again leaves what was before.
pub out_again : (among : Bool) (line : ℕ) (before : Option ℕ) → (among ≡ true → before ≡ None)
    → cond among None (cond among (Some line) before) ≡ before
out_again true line before absent = sym (absent refl)
out_again false line before absent = refl

pub not_known : (found : Option ℕ) → is_some found ≡ false → found ≡ None
not_known None none = refl
not_known (Some line) none = cc

-- What is known with more ids.
pub either_known : (among : Bool) (line : ℕ) (before : Option ℕ)
    → is_some (cond among (Some line) before) ≡ (is_some before || among)
either_known true line before = sym (or_true (is_some before))
either_known false line before = sym (or_false (is_some before))

-- One id more with the clock.
pub sent_more : (clock : List ℕ) (ids : List (List ℕ)) (i : ℕ) → i < length ids → (id : List ℕ) → id ≡ id_at ids i
    → (kept : List ℕ) → kept ≡ clock
    → map (sent_with clock) (take i ids) ++ record { id = id; clock = kept } ∷ []
    ≡ map (sent_with clock) (take (i + 1) ids)
sent_more clock ids i within id is kept same =
    ap (λ k. map (sent_with clock) (take i ids) ++ sent_with kept k ∷ []) is
    ∙ ap (λ k. map (sent_with clock) (take i ids) ++ sent_with k (id_at ids i) ∷ []) same
    ∙ sym (map-append (sent_with clock) (take i ids) (id_at ids i ∷ []))
    ∙ ap (map (sent_with clock)) (sym (take_more ids i [] within))

none_at : {X : Type 0} (at : ℕ → Option X) (count : ℕ) → ((place : ℕ) → place < count → at place ≡ None)
    → first_at at count ≡ None
unfolding first_at
none_at at zero none = refl
none_at at (suc count) none =
    ap (λ first. option_or first (at count)) (none_at at count (λ place below. none place (omega (arith, below))))
    ∙ none count (omega arith)

first_is : {X : Type 0} (at : ℕ → Option X) (count place : ℕ) (x : X) → place < count
    → ((other : ℕ) → other < place → at other ≡ None) → at place ≡ Some x → first_at at count ≡ Some x
unfolding first_at
first_is at zero place x below none here = absurd (omega (arith, below))
first_is {X} at (suc count) place x below none here =
    by_last (eqb place count) refl (λ within. first_is at count place x within none here)
  where
    by_last : (b : Bool) → eqb place count ≡ b → (place < count → first_at at count ≡ Some x)
        → option_or (first_at at count) (at count) ≡ Some x
    by_last true same earlier =
        let last : place ≡ count = eqb-true place count same in
        ap (λ first. option_or first (at count))
        (none_at at count (λ other before. none other (omega (arith, before, last))))
        ∙ ap at (sym last) ∙ here
    by_last false other earlier =
        ap (λ first. option_or first (at count)) (earlier (omega (arith, below, eqb-false place count other)))

module _ (lines : List ℕ → Option ℕ) (line : ℕ) (ids : List (List ℕ)) where
  pub second_known : (place : ℕ) → is_second (is_known lines) ids place
      ≡ is_some (with_announced lines line (take place ids) (id_at ids place))
  second_known place =
      sym (either_known (is_among (id_at ids place) (take place ids)) line (lines (id_at ids place)))

  none_there : (place : ℕ) → is_second (is_known lines) ids place ≡ false → second_at lines line ids place ≡ None
  none_there place none =
      ap (option_map (λ first. record { id = id_at ids place; first = first }))
      (not_known (with_announced lines line (take place ids) (id_at ids place)) (sym (second_known place) ∙ none))

  -- None of these is known, or stands twice.
  pub none_second : AreNew (is_known lines) ids → second_in lines line ids ≡ None
  unfolding second_in
  none_second new =
      none_at (second_at lines line ids) (length ids) (λ place below. none_there place (new place below))

  -- The first of these that is known, or stands twice.
  pub first_second : (place : ℕ) (second : Second) → place < length ids
      → ((other : ℕ) → other < place → is_second (is_known lines) ids other ≡ false) → id_at ids place ≡ second.id
      → with_announced lines line (take place ids) (id_at ids place) ≡ Some second.first
      → second_in lines line ids ≡ Some second
  unfolding second_in
  first_second place second below new id is =
      first_is (second_at lines line ids) (length ids) place second below (λ other before. none_there other (new other
      before))
      (ap (option_map (λ first. record { id = id_at ids place; first = first })) is
      ∙ ap (λ k. Some (record { id = k; first = second.first })) id)

pub take_front : {X : Type 0} (xs ys : List X) → take (length xs) (xs ++ ys) ≡ xs
take_front [] ys = refl
take_front (x ∷ xs) ys = ap (λ l. x ∷ l) (take_front xs ys)

-- The last of a list, and those before it.
pub last_of : {X : Type 0} (all front rest : List X) (last x : X) → all ≡ front ++ last ∷ [] → all ≡ rest ++ x ∷ []
    → length rest ≡ length front → (rest ≡ front) × (x ≡ last)
last_of all front rest last x is also same = (
  sym (take_front rest (x ∷ [])) ∙ ap (take (length rest)) (sym also ∙ is)
      ∙ ap (λ n. take n (front ++ last ∷ [])) same ∙ take_front front (last ∷ []),
  sym (get_or_push rest x x (length rest) refl) ∙ ap (λ l. get_or l (length rest) x) (sym also ∙ is)
      ∙ get_or_push front last x (length rest) (sym same),
)

-- What is still to be noted, with one clock, before an id of it is noted and after it.
pub noted_last : (among same : Bool) (clock : List ℕ) (old : Option (List ℕ))
    → cond among (Some clock) (cond same (Some clock) old) ≡ cond (among || same) (Some clock) old
noted_last true same clock old = refl
noted_last false same clock old = refl

-- What holds of a success, where there is one.
pub when_ok : {T E P : Type 0} (result : Result T E) → is_err result ≡ false → OnOk result P → P
when_ok (Ok value) fine holds = holds
when_ok (Err fault) fine holds = cc

-- What holds anyway holds of an error.
pub if_err : {T E P : Type 0} (result : Result T E) → P → OnErr result P
if_err (Ok value) holds = tt
if_err (Err fault) holds = holds

-- A fault that is handed on.
pub handed_fault : {T E : Type 0} (result : Result T E) (fault : E)
    → IsErr result × IsErrAnd result (λ given. given ≡ fault) → result ≡ Err fault
handed_fault (Ok value) fault is = absurd (cc)
handed_fault (Err given) fault is = ap Err is.1
