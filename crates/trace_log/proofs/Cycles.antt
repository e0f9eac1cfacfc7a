-- Whether an event and the last one of another host know each other, member after member of its clock.
use Rattle.trace_log.proofs.Words.{◌≡◌, ◌∙◌, ◌+◌, ◌<◌, ℕ, zero, suc, true, false, List, [], ◌∷◌, ◌++◌}
use Rattle.trace_log.proofs.Words.{length, take, get_or, refl, ap, sym, subst, arith, add-one}
use Rattle.trace_log.proofs.Words.{Member, Some, seen_clock, seen_member}
use Rattle.std.proofs.Math.Dec.{leb}
use Rattle.std.proofs.lemmas.Bool.{le-leb}
use Rattle.std.proofs.lemmas.List.Folds.{list_any-append}
use Rattle.std.specs.Prelude.{◌≤◌, ◌&&◌, Bool, nat_eq, nat_lt}
use Rattle.trace_log.specs.declared.event.Member.{Member as OwnMember}
unfoldable use Rattle.trace_log.specs.Clock.{number_of}
use Rattle.trace_log.specs.Hosts.{Host, host_at, clock_among, number_among}
use Rattle.trace_log.specs.Look.{renumbered}
use Rattle.trace_log.specs.Order.{know_each_other, closes_cycle, any_closes_cycle, is_in_cycle}
use Rattle.trace_log.proofs.Falls.{seen_clock-next}
use Rattle.trace_log.proofs.HostNumbers.{number_is}

module _ (clocks : List ℕ → List Member) (host : List ℕ) (own : ℕ) where
  more : (before : List Member) (one : Member) → any_closes_cycle clocks host own before ≡ false
      → closes_cycle clocks host own one ≡ false
      → any_closes_cycle clocks host own (before ++ one ∷ []) ≡ false
  more before one none here =
      list_any-append (closes_cycle clocks host own) before (one ∷ [])
      ∙ rw (none, here) refl

  -- One member more.
  pub back-next : (clock : List OwnMember) (i : ℕ) (d : OwnMember) → i < length clock → d ≡ get_or clock i d
      → any_closes_cycle clocks host own (seen_clock (take i clock)) ≡ false
      → closes_cycle clocks host own (seen_member d) ≡ false
      → any_closes_cycle clocks host own (seen_clock (take (i + 1) clock)) ≡ false
  back-next clock i d within same none here =
      ap (any_closes_cycle clocks host own) (seen_clock-next clock i d within same)
      ∙ more (seen_clock (take i clock)) (seen_member d) none here

  -- A member whose host knows the event.
  pub back-some : (clock : List OwnMember) (i : ℕ) (d : OwnMember) → i < length clock → d ≡ get_or clock i d
      → closes_cycle clocks host own (seen_member d) ≡ true
      → any_closes_cycle clocks host own (seen_clock clock) ≡ true
  back-some [] i d within same here = absurd (omega arith)
  back-some (first ∷ others) zero d within same here =
      let now : closes_cycle clocks host own (seen_member first) ≡ true =
      subst (λ (m : OwnMember). closes_cycle clocks host own (seen_member m) ≡ true) same
      here in
      rw now refl
  back-some (first ∷ others) (suc i) d within same here =
      let rest = back-some others i d (omega arith) same here in
      grind arith

  -- One number more in the places of the names.
  pub renumbered-back-next : (clock : List Member) (numbers : List ℕ) (i : ℕ) (d one : Member) → i < length clock
      → i < length numbers → one.name ≡ (get_or clock i d).name → one.number ≡ get_or numbers i 0
      → any_closes_cycle clocks host own (renumbered (take i clock) numbers) ≡ false
      → closes_cycle clocks host own one ≡ false
      → any_closes_cycle clocks host own (renumbered (take (i + 1) clock) numbers) ≡ false
  renumbered-back-next clock numbers i d one within room named numbered none here =
      rw add-one (ap (any_closes_cycle clocks host own) (renumbered-next clock numbers i within room named numbered)
      ∙ more (renumbered (take i clock) numbers) one none here)
    where
      renumbered-next : (clock : List Member) (numbers : List ℕ) (i : ℕ) → i < length clock
          → i < length numbers → one.name ≡ (get_or clock i d).name → one.number ≡ get_or numbers i 0
          → renumbered (take (suc i) clock) numbers ≡ renumbered (take i clock) numbers ++ one ∷ []
      renumbered-next [] numbers i within room named numbered = absurd (omega arith)
      renumbered-next (first ∷ others) [] i within room named numbered = absurd (omega arith)
      renumbered-next (first ∷ others) (n ∷ numbers) zero within room named numbered =
          ap (λ m. (record { name = m; number = n }) ∷ []) (sym named)
          ∙ ap (λ k. (record { name = one.name; number = k }) ∷ []) (sym numbered)
      renumbered-next (first ∷ others) (n ∷ numbers) (suc i) within room named numbered =
          ap (λ (l : List Member). (record { name = first.name; number = n }) ∷ l)
          (renumbered-next others numbers i (omega arith) (omega arith) named numbered)

-- A number that isn't below one before isn't below a lower one.
pub closes-below : (before number earlier : ℕ) (knows : Bool) → before ≤ earlier
    → (nat_lt before number && knows) ≡ false → (nat_lt earlier number && knows) ≡ false
closes-below before number earlier false few none = and_false (nat_lt earlier number)
  where
    and_false : (b : Bool) → (b && false) ≡ false
    and_false true = refl
    and_false false = refl
closes-below before number earlier true few none =
    by_test (nat_lt earlier number) (nat_lt before number) refl refl none
  where
    by_test : (b c : Bool) → nat_lt earlier number ≡ b → nat_lt before number ≡ c → (c && true) ≡ false
        → (b && true) ≡ false
    by_test false c is was none = refl
    by_test true true is was none = none
    by_test true false is was none = grind arith

-- No event yet knows any.
pub none_knows_back : (host name : List ℕ) (own number : ℕ)
    → nat_eq own 0 ≡ know_each_other host own (record { name = name; number = number }) []
unfolding number_of
none_knows_back host name own number =
    let few : leb 0 number ≡ true = le-leb 0 number (omega arith) in
    let alone : nat_eq own 0 ≡ leb own 0 = grind arith in
    rw few alone

-- The same by the number of the other host.
pub back_by_number : (hosts : List Host) (host name : List ℕ) (own number i : ℕ) → number_among name hosts ≡ Some i
    → know_each_other host own (record { name = (host_at hosts i).name; number = number }) (host_at hosts i).clock
    ≡ know_each_other host own (record { name = name; number = number }) (clock_among name hosts)
back_by_number hosts host name own number i is =
    let there = number_is name hosts i is in
    ap (λ n. know_each_other host own (record { name = n; number = number }) (host_at hosts i).clock) there.named
    ∙ ap (λ c. know_each_other host own (record { name = name; number = number }) c) (sym there.clock)

-- It asks nothing of the clocks but what they are.
pub same_cycle : (clocks clocks' : List ℕ → List Member) (host : List ℕ) (clock : List Member)
    → ((name : List ℕ) → clocks name ≡ clocks' name)
    → is_in_cycle clocks host clock ≡ is_in_cycle clocks' host clock
same_cycle clocks clocks' host clock same = each (number_of host clock) clock
  where
    each : (own : ℕ) (members : List Member)
        → any_closes_cycle clocks host own members ≡ any_closes_cycle clocks' host own members
    each own [] = refl
    each own (one ∷ others) = rw (same host, same one.name, each own others) refl
