-- Conditions that were read, and the first that wasn't.
use Rattle.std.proofs.lemmas.Grind.{common_steps}
use Rattle.trace_condition.proofs.Words.{◌≡◌, ℕ, ◌<◌, ◌≤◌, ◌+◌, ◌&&◌, Bool, true, false, cond, List, [], ◌∷◌, ◌++◌, map}
use Rattle.trace_condition.proofs.Words.{length, get_or, take, drop, Option, Some, None, Result, IfOk, ap, sym, ◌∙◌}
use Rattle.trace_condition.proofs.Words.{subst, add-one, arith, rules, drop-cons, All, AllByRecursion, list_any}
use Rattle.trace_condition.proofs.Words.{bytes_eq}
use Rattle.trace_condition.proofs.Words.{length-map, map-append, map_more, take-append-drop, map-map, ConditionFault}
use Rattle.trace_condition.proofs.Words.{Usage, Expression, Memory, FromUntil, ◌>>=◌, Asked, Text, Word, Saying}
use Rattle.trace_condition.proofs.Words.{are_fit, seen_saying, said_by, IsReadExpression, IsRead, CanBeRead}
use Rattle.trace_condition.proofs.Words.{RefusesExpression, RefusesSaying, RefusesSayings, ReadsSayings, HaveHosts}
use Rattle.std.specs.List.{IsDistinct}
use Rattle.std.specs.declared.vec.Vec.{Vec}
use Rattle.std.proofs.lemmas.List.Elements.{All-map, All-push}
use Rattle.std.proofs.lemmas.Bool.Decides.{nat_tests}
use Rattle.std.specs.Prelude.{nat_le}
use Rattle.std.proofs.lemmas.Slice.Eq.{bytes_eq-Decides}
use Rattle.std.proofs.lemmas.Map.Made.{AllPairs-from_IsDistinct}
use Rattle.regex.specs.Patterns.{default_config}
use Rattle.regex.specs.Strings.{regex_source}
use Rattle.regex.specs.Names.{names_of}
use Rattle.regex.specs.Failures.{IsPattern}
use Rattle.regex.specs.declared.string.regex.Regex.{Regex}
use Rattle.trace_condition.specs.declared.rule.Rule.{Rule}
use Rattle.trace_condition.specs.declared.saying.Saying.{Saying as OwnSaying}
use Rattle.trace_condition.specs.declared.condition.Condition.{Condition}
use Rattle.trace_condition.specs.Asked.{are_distinct, conditions_of}
use Rattle.trace_condition.specs.Rules.{map_rule, EachOf}

-- The grammar reads the text of an expression that was read.
pub can_be_read : (regex : Regex) → IsReadExpression regex → IsPattern default_config (regex_source regex)
can_be_read regex read = (regex.pattern.program.hir, names_of regex.pattern.names.items, rw read.0 at read.1)

-- The first expression of a rule was read, and the second wasn't.
pub until_refused : (host : Text) (rule : Rule Text) (from until : Text) (fault : ConditionFault)
    → rule ≡ FromUntil from until → IsPattern default_config from → RefusesExpression host until fault
    → RefusesSaying (record { host = host; rule = rule }) fault
until_refused host rule from until fault is read refuses = grind (arith, common_steps)

rule_can_be_read : (rule : Rule Regex) → EachOf IsReadExpression rule
    → EachOf (IsPattern default_config) (map_rule regex_source rule)
rule_can_be_read rule read = grind (arith, common_steps, can_be_read)

all_can_be_read : (conditions : List Condition) → All IsRead conditions → All CanBeRead (map said_by conditions)
all_can_be_read conditions read =
    All-map CanBeRead said_by conditions (λ i d within. rule_can_be_read _ (read i d within))

split_at : (sayings : List OwnSaying) (i : ℕ) (d : OwnSaying) → i < length sayings
    → map seen_saying sayings
    ≡ map seen_saying (take i sayings) ++ seen_saying (get_or sayings i d) ∷ map seen_saying (drop (i + 1) sayings)
split_at sayings i d within =
    let left : drop i sayings ≡ get_or sayings i d ∷ drop (i + 1) sayings =
    rw add-one (drop-cons sayings i d within) in
    let whole : sayings ≡ take i sayings ++ (get_or sayings i d ∷ drop (i + 1) sayings) =
    sym (take-append-drop i sayings) ∙ ap (λ (rest : List OwnSaying). take i sayings ++ rest) left in
    ap (map seen_saying) whole ∙ map-append seen_saying (take i sayings) (get_or sayings i d ∷ drop (i + 1) sayings)

-- The i-th saying wasn't read, and those before it were.
pub fails_at : (sayings : List OwnSaying) (i : ℕ) (d : OwnSaying) (conditions : List Condition)
    (fault : ConditionFault) → i < length sayings → All IsRead conditions
    → map said_by conditions ≡ map seen_saying (take i sayings)
    → RefusesSaying (seen_saying (get_or sayings i d)) fault → RefusesSayings (map seen_saying sayings) fault
fails_at sayings i d conditions Usage within read so_far refuses = refuses
fails_at sayings i d conditions Memory within read so_far refuses = tt
fails_at sayings i d conditions (Expression host why) within read so_far refuses = record {
  before = map seen_saying (take i sayings);
  failed = seen_saying (get_or sayings i d);
  others = map seen_saying (drop (i + 1) sayings);
  split = split_at sayings i d within;
  were_read = subst (All CanBeRead) so_far (all_can_be_read conditions read);
  of_host = sym refuses.0;
  failed_by = refuses.1;
  not_memory = refuses.2;
}

none_equal : (host : Text) (hosts : List Text) → list_any (bytes_eq host) hosts ≡ false
    → AllByRecursion (λ y. bytes_eq host y ≡ false) hosts
none_equal host [] none = search rules
none_equal host (other ∷ others) none =
    let first : bytes_eq host other ≡ false = grind arith in
    let rest : list_any (bytes_eq host) others ≡ false = grind arith in
    (first, none_equal host others rest)

tested_distinct : (hosts : List Text) → are_distinct hosts ≡ true → IsDistinct bytes_eq hosts
unfolding IsDistinct are_distinct
tested_distinct [] test = search rules
tested_distinct (host ∷ hosts) test =
    let none : list_any (bytes_eq host) hosts ≡ false = grind arith in
    let rest : are_distinct hosts ≡ true = grind arith in
    (none_equal host hosts none, tested_distinct hosts rest)

passed : (paired fit : Bool) (all sayings : List Saying) → fit ≡ are_fit all
    → cond (paired && fit) (Some all) None ≡ Some sayings → are_fit sayings ≡ true
passed paired fit all sayings is said = grind (arith, common_steps)

joined_fit : (spans ats : Option (List Saying)) (whiles sayings : List Saying) (paired : Bool)
    → (spans >>= λ spans. ats >>= λ ats. cond (paired && are_fit (whiles ++ spans ++ ats))
    (Some (whiles ++ spans ++ ats)) None) ≡ Some sayings → are_fit sayings ≡ true
joined_fit spans ats whiles sayings paired said = grind (arith, common_steps, passed)

read_fit : (untils : Option (List Word)) (whiles ats : Option (List Saying)) (spans : List Word → Option (List Saying))
    (sayings : List Saying) (paired : Bool)
    → (untils >>= λ untils. whiles >>= λ whiles. spans untils >>= λ spans. ats >>= λ ats. cond
    (paired && are_fit (whiles ++ spans ++ ats)) (Some (whiles ++ spans ++ ats)) None) ≡ Some sayings
    → are_fit sayings ≡ true
read_fit untils whiles ats spans sayings paired said = grind (arith, common_steps, joined_fit)

-- What words say has hosts, and they are distinct.
said_is_fit : (asked : Asked) (sayings : List Saying) → conditions_of asked ≡ Some sayings → are_fit sayings ≡ true
unfolding conditions_of
said_is_fit asked sayings said =
    grind (arith, common_steps, read_fit)

parted : (n : ℕ) (distinct : Bool) → (nat_le 1 n && distinct) ≡ true → (1 ≤ n) × (distinct ≡ true)
parted n distinct fit = (grind (arith, nat_tests), grind (arith, nat_tests))

have_hosts : (conditions : List Condition) → are_fit (map said_by conditions) ≡ true → HaveHosts conditions
have_hosts conditions fit =
    grind (arith, parted, length-map, map-map, AllPairs-from_IsDistinct, bytes_eq-Decides, tested_distinct)

-- The hosts of conditions that were read of words.
pub have_hosts_if_read : {Z : Type 0} (asked : Asked) (sayings : List Saying) → conditions_of asked ≡ Some sayings
    → (result : Result (Vec Condition Z) ConditionFault) → ReadsSayings sayings result
    → IfOk result (λ conditions. HaveHosts conditions.items)
have_hosts_if_read asked sayings said result reads = grind (arith, common_steps, have_hosts, said_is_fit)

-- One condition more.
pub read_more : (sayings : List OwnSaying) (i : ℕ) (d : OwnSaying) (conditions : List Condition)
    (condition : Condition) → i < length sayings
    → (map said_by conditions ≡ map seen_saying (take i sayings)) × All IsRead conditions
    → (said_by condition ≡ seen_saying (get_or sayings i d)) × IsRead condition
    → (map said_by (conditions ++ condition ∷ []) ≡ map seen_saying (take (i + 1) sayings)) × All IsRead
    (conditions ++ condition ∷ [])
read_more sayings i d conditions condition within so_far reads =
    grind (arith, common_steps, map-append, map_more, All-push)
