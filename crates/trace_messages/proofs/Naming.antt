-- The clocks by the names of the hosts count what the clocks by their numbers count.
use Rattle.std.proofs.Common.{◌≡◌, ◌∙◌, ℕ, ◌+◌, ◌<◌, ◌≤◌, ◌^◌, Bool, true, false, cond, max, List, [], ◌∷◌, length}
use Rattle.std.proofs.Common.{slice_index}
use Rattle.std.proofs.Common.{zero, suc, refl, sym, ap, arith, Ok, Some, None, nat_eq, ◌&&◌, inl, inr, ◌⊎◌, ◌↔◌}
use Rattle.std.proofs.Math.Dec.{leb, ltb}
use Rattle.std.specs.Str.{all_ascii_digits}
use Rattle.std.specs.Str.Parse.{digits_value}
use Rattle.std.proofs.lemmas.Bool.{eqb-true, eqb-false, leb-true, leb-false, false_from_ne_true, lt-ltb, le-leb}
use Rattle.std.proofs.lemmas.Fmt.{decimal_nonempty, digits_decimal, digits_value-decimal}
use Rattle.std.proofs.lemmas.Slice.Eq.{bytes_eq-Decides}
use Rattle.std.specs.Fmt.{decimal}
use Rattle.std.specs.List.{Contains}
use Rattle.std.specs.Str.{bytes_eq}
use Rattle.trace_log.proofs.Numbers.{own as as_digits}
unfoldable use Rattle.trace_log.specs.Clock.{number_of, clock_of, number_spelled}
use Rattle.trace_log.specs.Clock.{most_number}
use Rattle.trace_moment.specs.Moment.{HappenedBefore}
use Rattle.trace_order.specs.Messages.{MessageEvent}
use Rattle.trace_order.specs.Orders.{Ordered, IsUpTo, IsLast, IsUnbegun}
use Rattle.trace_order.specs.State.{HasOrdered, AreDistinct, name_at, names_in, clocks_in, waits_in}
use Rattle.trace_order.specs.declared.order.MessageOrder.{MessageOrder}
use Rattle.trace_order.proofs.Past.{given_read}
use Rattle.trace_messages.specs.Named.{named_from, event_named, HaveClocks}
use Rattle.trace_messages.specs.Printed.{members_from}

-- Behind the last name nothing is counted.
CountsNone : List (List ℕ) → ℕ → List ℕ → Type 0
CountsNone names host counts = (i : ℕ) → length names ≤ host + i → slice_index counts i ≡ 0

module _ (names : List (List ℕ)) (distinct : AreDistinct names) where
  -- Another host has another name.
  differs : (k h : ℕ) → k < length names → h < length names → (k ≡ h → ⊥) → bytes_eq (name_at names k) (name_at names
      h) ≡ false
  differs k h first second apart =
      false_from_ne_true _ (λ same. apart (distinct k h first second ((bytes_eq-Decides _ _).0 same)))

  counted_within : (host count : ℕ) (counts : List ℕ) → CountsNone names host (count ∷ counts)
      → nat_eq count 0 ≡ false → host < length names
  unfolding CountsNone
  counted_within host count counts none some = by_range (leb (length names) host) refl
    where
      by_range : (b : Bool) → leb (length names) host ≡ b → host < length names
      by_range true past = absurd (eqb-false count 0 some (none 0 (omega (arith, leb-true (length names) host past))))
      by_range false within = leb-false (length names) host within

  none_behind : (host count : ℕ) (counts : List ℕ) → CountsNone names host (count ∷ counts)
      → CountsNone names (host + 1) counts
  unfolding CountsNone
  none_behind host count counts none i past = none (suc i) (omega (arith, past))

  -- A host before these isn't counted.
  not_from : (h host : ℕ) (counts : List ℕ) → h < length names → h < host → CountsNone names host counts
      → number_of (name_at names h) (named_from names host counts) ≡ 0
  unfolding number_of
  not_from h host [] within before none = refl
  not_from h host (count ∷ counts) within before none =
      let later = not_from h (host + 1) counts within (omega (arith, before)) (none_behind host count counts none) in
      by_count (nat_eq count 0) refl later
    where
      by_count : (b : Bool) → nat_eq count 0 ≡ b
          → number_of (name_at names h) (named_from names (host + 1) counts) ≡ 0
          → number_of (name_at names h) (named_from names host (count ∷ counts)) ≡ 0
      by_count true zero_is later = rw zero_is later
      by_count false some later =
          let other = differs host h (counted_within host count counts none some) within (λ same. omega (
            arith,
            same,
            before,
          )) in
          rw some (rw other later)

  -- A host from these on has its number.
  number_from : (h host d : ℕ) (counts : List ℕ) → h < length names → h ≡ host + d → CountsNone names host counts
      → number_of (name_at names h) (named_from names host counts) ≡ slice_index counts d
  unfolding number_of
  number_from h host d [] within is none = refl
  number_from h host zero (count ∷ counts) within is none =
      let later = not_from h (host + 1) counts within (omega (arith, is)) (none_behind host count counts none) in
      by_count (nat_eq count 0) refl later
    where
      by_count : (b : Bool) → nat_eq count 0 ≡ b
          → number_of (name_at names h) (named_from names (host + 1) counts) ≡ 0
          → number_of (name_at names h) (named_from names host (count ∷ counts)) ≡ count
      by_count true zero_is later = rw zero_is (later ∙ sym (eqb-true count 0 zero_is))
      by_count false some later =
          let host_is : host ≡ h = omega (arith, is) in
          let same = (bytes_eq-Decides (name_at names host) (name_at names h)).1 (ap (name_at names) host_is) in
          rw some (rw same (ap (max count) later ∙ omega arith))
  number_from h host (suc d) (count ∷ counts) within is none =
      let later = number_from h (host + 1) d counts within (omega (arith, is)) (none_behind host count counts none) in
      by_count (nat_eq count 0) refl later
    where
      by_count : (b : Bool) → nat_eq count 0 ≡ b
          → number_of (name_at names h) (named_from names (host + 1) counts) ≡ slice_index counts d
          → number_of (name_at names h) (named_from names host (count ∷ counts)) ≡ slice_index counts d
      by_count true zero_is later = rw zero_is later
      by_count false some later =
          let other = differs host h (counted_within host count counts none some) within (λ same. omega (
            arith,
            same,
            is,
          )) in
          rw some (rw other later)

-- A number of a clock is read back from its digits.
spelled_back : (n : ℕ) → n ≤ most_number → number_spelled (decimal n) ≡ Some n
unfolding number_spelled
spelled_back n small =
    let range : n < 2 ^ 64 = omega (arith, small) in
    let value = digits_value-decimal as_digits n range in
    all_pass (ltb 0 (length (decimal n))) (all_ascii_digits (decimal n)) (leb (digits_value 10 (decimal n)) most_number)
    (digits_value 10 (decimal n)) n (lt-ltb _ _ (decimal_nonempty n range)) (digits_decimal as_digits n range)
    (le-leb _ _ (omega (arith, value, small))) value
  where
    all_pass : (a b c : Bool) (v n : ℕ) → a ≡ true → b ≡ true → c ≡ true → v ≡ n
        → cond (a && b && c) (Some v) None ≡ Some n
    all_pass a b c v n first second third same = rw (first, second, third) (ap Some same)

-- What is printed of a clock is read as the clock.
read_from : (names : List (List ℕ)) (host : ℕ) (counts : List ℕ) → ((i : ℕ) → slice_index counts i ≤ most_number)
    → clock_of (members_from names host counts) ≡ Ok (named_from names host counts)
unfolding clock_of
read_from names host [] small = refl
read_from names host (count ∷ counts) small =
    by_count (nat_eq count 0) refl (read_from names (host + 1) counts (λ i. small (suc i)))
  where
    by_count : (b : Bool) → nat_eq count 0 ≡ b
        → clock_of (members_from names (host + 1) counts) ≡ Ok (named_from names (host + 1) counts)
        → clock_of (members_from names host (count ∷ counts)) ≡ Ok (named_from names host (count ∷ counts))
    by_count true zero_is later = rw zero_is later
    by_count false some later = rw some (rw (spelled_back count (small 0)) (rw later refl))

module _ (log : List MessageEvent) (given : List Ordered) (order : MessageOrder) (ordered : HasOrdered log given order)
  where
    its_place : (one : Ordered) → Contains given one → one.event.host < length (names_in order.hosts.items)
    its_place one there =
        ordered.placed one.event (given_read log given (waits_in order.hosts.items) ordered.in_order one there)

    counts_none : (one : Ordered) → Contains given one → CountsNone (names_in order.hosts.items) 0 one.clock
    unfolding CountsNone
    counts_none one there i past = by_last (ordered.keeps.lasts i)
      where
        by_last : (IsLast given i (clocks_in order.hosts.items i) ⊎ IsUnbegun given i (clocks_in order.hosts.items i))
            → slice_index one.clock i ≡ 0
        by_last (inl at_last) =
            let within = its_place at_last.last at_last.was_given in
            absurd (omega (arith, within, at_last.host_is, past))
        by_last (inr unbegun) =
            let bound = ordered.keeps.bounds one i there in
            let none = ap (λ l. slice_index l i) unbegun.clock_is in
            omega (arith, bound, none)

    all_small : (one : Ordered) → Contains given one → (i : ℕ) → slice_index one.clock i ≤ most_number
    all_small one there i = by_last (ordered.keeps.lasts i)
      where
        by_last : (IsLast given i (clocks_in order.hosts.items i) ⊎ IsUnbegun given i (clocks_in order.hosts.items i))
            → slice_index one.clock i ≤ most_number
        by_last (inl at_last) =
            let bound = ordered.keeps.bounds one i there in
            let most = ordered.keeps.most at_last.last at_last.was_given in
            let same = ap (λ l. slice_index l i) at_last.clock_is in
            let host_is = ap (slice_index at_last.last.clock) at_last.host_is in
            omega (arith, bound, most, same, host_is)
        by_last (inr unbegun) =
            let bound = ordered.keeps.bounds one i there in
            let none = ap (λ l. slice_index l i) unbegun.clock_is in
            omega (arith, bound, none)

    number_named : (one other : Ordered) → Contains given one → Contains given other
        → number_of (name_at (names_in order.hosts.items) one.event.host)
        (named_from (names_in order.hosts.items) 0 other.clock) ≡ slice_index other.clock one.event.host
    number_named one other first second =
        number_from (names_in order.hosts.items) ordered.named one.event.host 0 one.event.host other.clock
        (its_place one first) (omega arith) (counts_none other second)

    -- The clocks as they are printed are happened-before.
    pub have_clocks : HaveClocks log given (names_in order.hosts.items)
    have_clocks = record {
      read_back = λ one there. read_from (names_in order.hosts.items) 0 one.clock (all_small one there);
      says = says;
    }
      where
        says : (e f : Ordered) → Contains given e → Contains given f
            → (HappenedBefore (event_named (names_in order.hosts.items) e) (event_named (names_in order.hosts.items) f)
            ↔ IsUpTo log e.event f.event)
        says e f first second =
            let own_is = number_named e e first first in
            let known_is = number_named e f first second in
            let both = ordered.keeps.says e f first second in (
              λ before. both.0 (omega (arith, before, own_is, known_is)),
              λ up. let count = both.1 up in omega (arith, count, own_is, known_is),
            )
