-- What the words of a command line say, and whether no host is said twice.
use Rattle.trace_condition.proofs.Words.{◌≡◌, ◌≢◌, ℕ, ◌<◌, ◌≤◌, ◌+◌, ◌==◌, ◌&&◌, Bool, true, false, not, cond, List, []}
use Rattle.trace_condition.proofs.Words.{◌∷◌, ◌++◌, map, length, get_or, drop, Option, Some, None, option_map, find}
use Rattle.trace_condition.proofs.Words.{refl}
use Rattle.trace_condition.proofs.Words.{ap, sym, ◌∙◌, add-one, suc, Bor, list_any, bytes_eq, drop-cons, drop_all}
use Rattle.trace_condition.proofs.Words.{length-map, map-append, map-map, ConditionFault, Usage, Expression, Memory}
use Rattle.trace_condition.proofs.Words.{Asked, Text, Word, Saying, all_read, word_in, saying_by, while_rule, from_rule}
use Rattle.trace_condition.proofs.Words.{at_rule, until_of, are_fit, FromUntil, Fails, seen_word}
use Rattle.trace_condition.proofs.Words.{seen_saying}
use Rattle.trace_condition.proofs.Words.{host_said}
use Rattle.std.proofs.lemmas.Bool.{lt-ltb, eq-eqb, ne_eqb}
use Rattle.trace_condition.specs.declared.word.Word.{Word as OwnWord}
use Rattle.trace_condition.specs.declared.saying.Saying.{Saying as OwnSaying}
use Rattle.trace_condition.specs.Asked.{are_distinct, conditions_of}

-- The first of the items that passes, seen by f.
find-map : {A B : Type 0} (f : A → B) (p : B → Bool) (items : List A)
    → find p (map f items) ≡ option_map f (find (λ x. p (f x)) items)
find-map f p [] = refl
find-map f p (item ∷ items) = by_test (p (f item)) (find-map f p items)
  where
    by_test : (passes : Bool) → find p (map f items) ≡ option_map f (find (λ x. p (f x)) items)
        → cond passes (Some (f item)) (find p (map f items))
        ≡ option_map f (cond passes (Some item) (find (λ x. p (f x)) items))
    by_test true others = refl
    by_test false others = others

any-map : {A B : Type 0} (f : A → B) (p : B → Bool) (items : List A)
    → list_any p (map f items) ≡ list_any (λ x. p (f x)) items
any-map f p [] = refl
any-map f p (item ∷ items) = rw (any-map f p items) refl

pub found_until : (host : Text) (untils : List OwnWord)
    → until_of host (map seen_word untils)
    ≡ option_map (λ until. until.expression.now) (find (λ until. bytes_eq until.host.now host) untils)
found_until host untils =
    rw (find-map seen_word (λ until. bytes_eq until.host host) untils)
    (twice (find (λ until. bytes_eq until.host.now host) untils))
  where
    twice : (found : Option OwnWord)
        → option_map (λ until. until.expression) (option_map seen_word found)
        ≡ option_map (λ until. until.expression.now) found
    twice None = refl
    twice (Some word) = refl

-- The rule of a from, by the expression of the until that was found.
pub ended_by : (untils : List OwnWord) (from : Word) (until : Option (Bor Text))
    → option_map (λ text. text.now) until
    ≡ option_map (λ until. until.expression.now) (find (λ until. bytes_eq until.host.now from.host) untils)
    → option_map (λ text. FromUntil from.expression text.now) until ≡ from_rule (map seen_word untils) from
ended_by untils from None found = rw (found_until from.host untils, ← found) refl
ended_by untils from (Some text) found = rw (found_until from.host untils, ← found) refl

-- The hosts from the i-th on.
distinct_from : (sayings : List OwnSaying) (i : ℕ) (d : OwnSaying) → i < length sayings
    → are_distinct (map host_said (drop i sayings))
    ≡ (not (list_any (λ s. bytes_eq (host_said (get_or sayings i d)) (host_said s)) (drop (i + 1) sayings)) &&
    are_distinct (map host_said (drop (i + 1) sayings)))
unfolding are_distinct
distinct_from sayings i d within =
    rw (add-one, drop-cons sayings i d within)
    (ap (λ (among : Bool). not among && are_distinct (map host_said (drop (suc i) sayings)))
    (any-map host_said (bytes_eq (host_said (get_or sayings i d))) (drop (suc i) sayings)))

pub distinct_more : (sayings : List OwnSaying) (i : ℕ) (d : OwnSaying) (all : Bool) → i < length sayings
    → list_any (λ s. bytes_eq (host_said (get_or sayings i d)) (host_said s)) (drop (i + 1) sayings) ≡ false
    → are_distinct (map host_said (drop i sayings)) ≡ all → are_distinct (map host_said (drop (i + 1) sayings)) ≡ all
distinct_more sayings i d all within none so_far = sym (rw none at (distinct_from sayings i d within)) ∙ so_far

pub distinct_fails : (sayings : List OwnSaying) (i : ℕ) (d : OwnSaying) (all : Bool) → i < length sayings
    → list_any (λ s. bytes_eq (host_said (get_or sayings i d)) (host_said s)) (drop (i + 1) sayings) ≡ true
    → are_distinct (map host_said (drop i sayings)) ≡ all → false ≡ all
distinct_fails sayings i d all within twice so_far = sym (rw twice at (distinct_from sayings i d within)) ∙ so_far

pub distinct_ends : (sayings : List OwnSaying) (i : ℕ) (all : Bool) → length sayings ≤ i
    → are_distinct (map host_said (drop i sayings)) ≡ all → true ≡ all
unfolding are_distinct
distinct_ends sayings i all end so_far =
    sym (ap (λ (left : List OwnSaying). are_distinct (map host_said left)) (drop_all i sayings end)) ∙ so_far

pub fit_as : (sayings : List OwnSaying) (distinct : Bool) → 0 < length sayings
    → distinct ≡ are_distinct (map host_said sayings) → distinct ≡ are_fit (map seen_saying sayings)
fit_as sayings distinct some is =
    rw (
      length-map sayings seen_saying,
      map-map (λ (s : Saying). s.host) seen_saying sayings,
      lt-ltb 0
          (length sayings) some,
    ) is

-- The steps of what the words say.
module _ (asked : Asked) where
  pub untils_fail : (fault : ConditionFault) → Fails fault (all_read word_in asked.untils)
      → Fails fault (conditions_of asked)
  unfolding conditions_of
  untils_fail Usage fails = rw fails refl
  untils_fail (Expression host why) fails = fails
  untils_fail Memory fails = tt

  module _ (untils : List Word) (read_untils : all_read word_in asked.untils ≡ Some untils) where
    pub whiles_fail : (fault : ConditionFault) → Fails fault (all_read (saying_by while_rule) asked.whiles)
        → Fails fault (conditions_of asked)
    unfolding conditions_of
    whiles_fail Usage fails = rw (read_untils, fails) refl
    whiles_fail (Expression host why) fails = fails
    whiles_fail Memory fails = tt

    module _ (whiles : List Saying) (read_whiles : all_read (saying_by while_rule) asked.whiles ≡ Some whiles) where
      pub spans_fail : (fault : ConditionFault) → Fails fault (all_read (saying_by (from_rule untils)) asked.froms)
          → Fails fault (conditions_of asked)
      unfolding conditions_of
      spans_fail Usage fails = rw (read_untils, read_whiles, fails) refl
      spans_fail (Expression host why) fails = fails
      spans_fail Memory fails = tt

      module _ (spans : List Saying)
          (read_spans : all_read (saying_by (from_rule untils)) asked.froms ≡ Some spans) where
        pub ats_fail : (fault : ConditionFault) → Fails fault (all_read (saying_by at_rule) asked.ats)
            → Fails fault (conditions_of asked)
        unfolding conditions_of
        ats_fail Usage fails = rw (read_untils, read_whiles, read_spans, fails) refl
        ats_fail (Expression host why) fails = fails
        ats_fail Memory fails = tt

        pub said : (ats : List Saying) → all_read (saying_by at_rule) asked.ats ≡ Some ats
            → conditions_of asked
            ≡ cond (length asked.untils == length asked.froms && are_fit (whiles ++ spans ++ ats))
            (Some (whiles ++ spans ++ ats)) None
        unfolding conditions_of
        said ats read_ats = rw (read_untils, read_whiles, read_spans, read_ats) refl

-- Three lists of sayings, seen in one.
pub seen_in_one : (first second third all : List OwnSaying) → all ≡ first ++ second ++ third
    → map seen_saying all ≡ map seen_saying first ++ map seen_saying second ++ map seen_saying third
seen_in_one first second third all is = rw is (simp map-append)

pub fit_said : (all : List Saying) (untils froms : ℕ) → untils ≡ froms → are_fit all ≡ true
    → cond (untils == froms && are_fit all) (Some all) None ≡ Some all
fit_said all untils froms paired fit = rw (eq-eqb untils froms paired, fit) refl

pub unpaired_said : (all : List Saying) (untils froms : ℕ) → untils ≢ froms
    → cond (untils == froms && are_fit all) (Some all) None ≡ None
unpaired_said all untils froms unpaired = rw (ne_eqb untils froms unpaired) refl

pub unfit_said : (all : List Saying) (paired : Bool) → are_fit all ≡ false
    → cond (paired && are_fit all) (Some all) None ≡ None
unfit_said all true unfit = rw unfit refl
unfit_said all false unfit = refl
