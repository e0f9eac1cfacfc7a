-- The line of an event says that event.
use Rattle.wullaphi_record.proofs.Words.{◌≡◌, ◌≢◌, inl, inr, ◌<◌, ◌≤◌, ◌^◌, ℕ, Bool, true, false}
use Rattle.wullaphi_record.proofs.Words.{List, [], ◌∷◌, length, map, refl, arith, nat_lt, nat_le}
use Rattle.wullaphi_record.proofs.Words.{list_any, Ok, Some, lt-ltb, le-leb, bytes_differ, bytes_eq}
use Rattle.std.specs.Prelude.{◌==◌}
use Rattle.std.specs.Fmt.{decimal}
use Rattle.std.specs.Str.{IsUtf8, all_ascii_digits}
use Rattle.std.proofs.lemmas.Fmt.{decimal_is_IsNumeral, decimal_nonempty}
use Rattle.std.proofs.lemmas.Str.{is_utf8-from_IsUtf8}
use Rattle.json.specs.Json.{Members, document, max_depth}
use Rattle.json.specs.Strict.{keys}
use Rattle.json.specs.Tree.{MembersHaveNumbers, depth, members_depth}
use Rattle.json.proofs.Printed.Decimals.{IsNumber-decimal}
use Rattle.json.proofs.Printed.Trees.{document-print}
use Rattle.trace_log.proofs.Numbers.{own as digits_own}
use Rattle.trace_log.specs.Clock.{Member, are_distinct, has_distinct_names, members_have_distinct_names, most_number}
unfoldable use Rattle.trace_log.specs.Clock.{clock_of, number_of, number_spelled}
unfoldable use Rattle.trace_log.specs.Event.{event_in, event_in_json}
use Rattle.trace_log.specs.Event.{most_bytes}
use Rattle.trace_log.specs.Fields.{members_from}
use Rattle.trace_log.specs.PlainEvents.{clock_fields, clock_object}
use Rattle.trace_rewrite.specs.Lines.{event_json, event_object}
use Rattle.wullaphi_record.specs.Recorded.{IsKept, Recording, counted, recorded_at}
use Rattle.wullaphi_record.specs.Logs.{logged_at, member_of, number_in}
use Rattle.wullaphi_record.proofs.Among.{IsIn, Distinct}
use Rattle.wullaphi_record.proofs.Numbering.{known_within}
use Rattle.wullaphi_record.proofs.Following.{own_in}

-- A number is read from its digits.
spelled : (n : ℕ) → n ≤ most_number → number_spelled (decimal n) ≡ Some n
unfolding number_spelled
spelled n few =
    let fits : n < 2 ^ 64 = omega arith in
    let is = decimal_is_IsNumeral n fits in
    let digits : all_ascii_digits (decimal n) ≡ true = digits_own.from (decimal n) is.0.1 in
    let some : nat_lt 0 (length (decimal n)) ≡ true = lt-ltb _ _ (decimal_nonempty n fits) in
    let small : nat_le n most_number ≡ true = le-leb n most_number few in
    rw (some, digits, is.1, small) refl

module _ (own : Recording) (i : ℕ) where
  abbrev clock_in : List Recording → List Member
  clock_in all = map (member_of own i) all

  abbrev members_in : List Recording → Members
  members_in all = members_from (clock_fields (clock_in all))

  -- The clock is read from its members.
  clock_read : (all : List Recording) → ((one : Recording) → IsIn one all → number_in own i one ≤ most_number)
      → clock_of (members_in all) ≡ Ok (clock_in all)
  unfolding clock_of
  clock_read [] few = refl
  clock_read (one ∷ others) few =
      rw (spelled (number_in own i one) (few one (inl refl)), clock_read others (λ other later. few other (inr later))) refl

  -- Its names are distinct.
  name_new : (name : List ℕ) (all : List Recording) → ((other : Recording) → IsIn other all → name ≢ other.name)
      → list_any (bytes_eq name) (keys (members_in all)) ≡ false
  name_new name [] new = refl
  name_new name (first ∷ others) new =
      rw (bytes_differ name first.name (new first (inl refl))) (name_new name others (λ other later. new other (inr later)))

  names_distinct : (all : List Recording) → Distinct all → are_distinct (keys (members_in all)) ≡ true
  names_distinct [] are = refl
  names_distinct (first ∷ others) are =
      rw (name_new first.name others (λ other later. (are.0 other later).1)) (names_distinct others are.1)

  numbers_distinct : (all : List Recording) → members_have_distinct_names (members_in all) ≡ true
  numbers_distinct [] = refl
  numbers_distinct (first ∷ others) = numbers_distinct others

  clock_distinct : (all : List Recording) → Distinct all → has_distinct_names (clock_object (clock_in all)) ≡ true
  clock_distinct all are = rw (names_distinct all are, numbers_distinct all) refl

  clock_depth : (all : List Recording) → members_depth (members_in all) ≡ 0
  clock_depth [] = refl
  clock_depth (first ∷ others) = rw (clock_depth others) refl

  clock_numbers : (all : List Recording) → ((one : Recording) → IsIn one all → number_in own i one ≤ most_number)
      → MembersHaveNumbers (members_in all)
  clock_numbers [] few = tt
  clock_numbers (one ∷ others) few = (
    IsNumber-decimal (number_in own i one) (omega (arith, few one (inl refl))),
    clock_numbers others (λ other later. few other (inr later)),
  )

-- The numbers of a log's clock are small.
pub number_few : (own : Recording) (i : ℕ) (one : Recording) → i < length own.events → IsKept own → IsKept one
    → number_in own i one ≤ most_number
number_few own i one within kept one_kept = by (one.process == own.process) refl
  where
    by : (b : Bool) → (one.process == own.process) ≡ b → number_in own i one ≤ most_number
    by true is = rw is (omega (arith, kept.within, within))
    by false is =
        rw is (omega (arith, known_within one (counted one.process (recorded_at own.events i)), one_kept.within))

-- A line that is short enough says the event.
pub event_said : (all : List Recording) (own : Recording) (i : ℕ) → Distinct all → IsIn own all
    → ((one : Recording) → IsIn one all → IsKept one) → i < length own.events
    → (let event = logged_at all own i in let json = event_json event.host (clock_object event.clock) event.text in
    length json ≤ most_bytes → IsUtf8 json → event_in json ≡ Ok event)
unfolding event_in event_in_json
event_said all own i are here kept within short utf8 =
    let clock = clock_object (clock_in own i all) in
    let text = (recorded_at own.events i).text in
    let said = event_object own.name clock text in
    let few : (one : Recording) → IsIn one all → number_in own i one ≤ most_number =
    λ one there. number_few own i one within (kept own here) (kept one there) in
    let deep : depth said ≤ max_depth = rw (clock_depth own i all) (omega arith) in
    let shown : document (event_json own.name clock text) ≡ Some said =
    document-print said (tt, (clock_numbers own i all few, (tt, tt))) deep in
    let distinct : has_distinct_names said ≡ true = rw (clock_distinct own i all are) refl in
    let positive : nat_lt 0 (number_of own.name (clock_in own i all)) ≡ true =
    lt-ltb _ _ (omega (arith, own_in all own i are here)) in
    rw (
      le-leb (length (event_json own.name clock text)) most_bytes short,
      is_utf8-from_IsUtf8 (event_json own.name clock text) utf8,
      shown,
      distinct,
      clock_read own i all few,
      positive,
    ) refl
