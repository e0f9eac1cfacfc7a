-- Whether a name stands twice, as a test.
use Rattle.trace_log.proofs.Words.{◌≡◌, ℕ, true, false, List, [], ◌∷◌, refl, arith, rules, AllByRecursion, list_any}
use Rattle.trace_log.proofs.Words.{bytes_eq, false_from_ne_true, bytes_eq-Decides, Json, null, boolean, number, string}
use Rattle.trace_log.proofs.Words.{array, object, Items, no_items, item, Members, no_members, member, are_distinct}
use Rattle.trace_log.proofs.Words.{has_distinct_names, items_have_distinct_names, members_have_distinct_names}
use Rattle.std.specs.List.{IsDistinct}
use Rattle.std.proofs.lemmas.Map.Made.{AllPairs-from_IsDistinct, IsDistinct-from_AllPairs}
use Rattle.json.specs.Strict.{keys, AreDistinct, HasUniqueKeys, ItemsHaveUniqueKeys, MembersHaveUniqueKeys}

none_equal : (name : List ℕ) (names : List (List ℕ)) → AllByRecursion (λ y. bytes_eq name y ≡ false) names
    → list_any (bytes_eq name) names ≡ false
none_equal name [] differ = refl
none_equal name (other ∷ others) differ =
    let rest = none_equal name others differ.1 in
    let first : bytes_eq name other ≡ false = differ.0 in
    grind arith

all_differ : (name : List ℕ) (names : List (List ℕ)) → list_any (bytes_eq name) names ≡ false
    → AllByRecursion (λ y. bytes_eq name y ≡ false) names
all_differ name [] none = search rules
all_differ name (other ∷ others) none =
    let first : bytes_eq name other ≡ false = grind arith in
    let rest : list_any (bytes_eq name) others ≡ false = grind arith in
    (first, all_differ name others rest)

distinct_test : (names : List (List ℕ)) → IsDistinct bytes_eq names → are_distinct names ≡ true
unfolding IsDistinct
distinct_test [] distinct = refl
distinct_test (name ∷ names) distinct =
    let none = none_equal name names distinct.0 in
    let rest = distinct_test names distinct.1 in
    grind arith

tested_distinct : (names : List (List ℕ)) → are_distinct names ≡ true → IsDistinct bytes_eq names
unfolding IsDistinct
tested_distinct [] test = search rules
tested_distinct (name ∷ names) test =
    let none : list_any (bytes_eq name) names ≡ false = grind arith in
    let rest : are_distinct names ≡ true = grind arith in
    (all_differ name names none, tested_distinct names rest)

are_distinct-true : (names : List (List ℕ)) → AreDistinct names → are_distinct names ≡ true
are_distinct-true names distinct = distinct_test names (IsDistinct-from_AllPairs bytes_eq-Decides names distinct)

AreDistinct-from_test : (names : List (List ℕ)) → are_distinct names ≡ true → AreDistinct names
AreDistinct-from_test names test = AllPairs-from_IsDistinct bytes_eq-Decides names (tested_distinct names test)

mutual
  pub distinct_names : (value : Json) → HasUniqueKeys value → has_distinct_names value ≡ true
  distinct_names null unique = refl
  distinct_names (boolean b) unique = refl
  distinct_names (number text) unique = refl
  distinct_names (string text) unique = refl
  distinct_names (array values) unique = distinct_in_items values unique
  distinct_names (object members) unique =
      let own = are_distinct-true (keys members) unique.0 in
      let rest = distinct_in_members members unique.1 in
      grind arith

  distinct_in_items : (values : Items) → ItemsHaveUniqueKeys values → items_have_distinct_names values ≡ true
  distinct_in_items no_items unique = refl
  distinct_in_items (item value others) unique =
      let one = distinct_names value unique.0 in
      let rest = distinct_in_items others unique.1 in
      grind arith

  distinct_in_members : (members : Members) → MembersHaveUniqueKeys members → members_have_distinct_names members ≡ true
  distinct_in_members no_members unique = refl
  distinct_in_members (member name value others) unique =
      let one = distinct_names value unique.0 in
      let rest = distinct_in_members others unique.1 in
      grind arith

mutual
  unique_names : (value : Json) → has_distinct_names value ≡ true → HasUniqueKeys value
  unique_names null test = search rules
  unique_names (boolean b) test = search rules
  unique_names (number text) test = search rules
  unique_names (string text) test = search rules
  unique_names (array values) test = unique_in_items values test
  unique_names (object members) test =
      let own : are_distinct (keys members) ≡ true = grind arith in
      let rest : members_have_distinct_names members ≡ true = grind arith in
      (AreDistinct-from_test (keys members) own, unique_in_members members rest)

  unique_in_items : (values : Items) → items_have_distinct_names values ≡ true → ItemsHaveUniqueKeys values
  unique_in_items no_items test = search rules
  unique_in_items (item value others) test =
      let one : has_distinct_names value ≡ true = grind arith in
      let rest : items_have_distinct_names others ≡ true = grind arith in
      (unique_names value one, unique_in_items others rest)

  unique_in_members : (members : Members) → members_have_distinct_names members ≡ true → MembersHaveUniqueKeys members
  unique_in_members no_members test = search rules
  unique_in_members (member name value others) test =
      let one : has_distinct_names value ≡ true = grind arith in
      let rest : members_have_distinct_names others ≡ true = grind arith in
      (unique_names value one, unique_in_members others rest)

-- A value that has a name twice fails the test.
pub names_stand_twice : (value : Json) → (HasUniqueKeys value → ⊥) → has_distinct_names value ≡ false
names_stand_twice value twice = false_from_ne_true (has_distinct_names value) (λ test. twice (unique_names value test))

-- Whether a name stands twice, both ways.
pub ruleset tells_names = (distinct_names, names_stand_twice)
