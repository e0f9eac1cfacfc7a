-- Each event of a log may follow those before it.
use Rattle.wullaphi_record.proofs.Words.{both_true, ◌≡◌, ◌≢◌, ◌∙◌, ◌⊎◌, inl, inr, ◌<◌, ◌≤◌, ℕ, zero, suc, ◌+◌, Bool, true, false}
use Rattle.wullaphi_record.proofs.Words.{List, [], ◌∷◌, length, map, refl, sym, ap, subst, arith, nat_lt}
use Rattle.wullaphi_record.proofs.Words.{nat_le, nat_tests, ◌&&◌, ◌==◌, list_any, Ok, lt-ltb, eq-eqb, lt-leb}
use Rattle.std.proofs.lemmas.Bool.{ne_eqb}
use Rattle.trace_log.specs.Clock.{Member}
unfoldable use Rattle.trace_log.specs.Clock.{number_of}
use Rattle.trace_log.specs.Event.{Event}
use Rattle.trace_log.specs.Order.{closes_cycle, falls, is_in_cycle, know_each_other, last_clock, may_follow}
use Rattle.wullaphi_record.specs.Recorded.{IsKept, Recording, counted, recorded_at}
use Rattle.wullaphi_record.specs.Logs.{AreOfOneRun, logged_at, member_of, number_in, number_known}
use Rattle.wullaphi_record.specs.Logs.{RecordedClocksLaw}
use Rattle.wullaphi_record.proofs.Among.{IsIn, Distinct, contains, distinct, is_in, same_name, same_process}
use Rattle.wullaphi_record.proofs.Numbering.{before_known, known_before, known_rises, number_some}

-- The own number of an event, and what it counts of another record.
pub own_number : (own : Recording) (i : ℕ) → number_in own i own ≡ own.passed + i + 1
own_number own i = rw (eq-eqb own.process own.process refl) refl

pub other_number : (own : Recording) (i : ℕ) (other : Recording) → own.process ≢ other.process
    → number_in own i other ≡ number_known other (counted other.process (recorded_at own.events i))
other_number own i other differ = rw (ne_eqb other.process own.process (λ same. differ (sym same))) refl

pub own_in : (all : List Recording) (own : Recording) (i : ℕ) → Distinct all → IsIn own all
    → number_of own.name (logged_at all own i).clock ≡ own.passed + i + 1
own_in all own i are here = number_some own i all own are here ∙ own_number own i

pub other_in : (all : List Recording) (own other : Recording) (i : ℕ) → Distinct all → IsIn other all
    → own.process ≢ other.process
    → number_of other.name (logged_at all own i).clock
    ≡ number_known other (counted other.process (recorded_at own.events i))
other_in all own other i are there differ = number_some own i all other are there ∙ other_number own i other differ

pub clocks_law : RecordedClocksLaw
clocks_law all one other i j are here there differ in_order within =
    let all_distinct = distinct all are in
    let own = own_in all one i all_distinct (is_in all here.0 one here.1 here.2) in
    let seen = other_in all other one j all_distinct (is_in all here.0 one here.1 here.2) (λ same. differ (sym same)) in (
      λ le. known_before one _ i within (omega (arith, own, seen, le)),
      λ knows. let le = before_known one _ i in_order within knows in omega (arith, own, seen, le),
    )

-- A clock is that of an event of the record with this name.
pub record EventOf (all : List Recording) (name : List ℕ) (clock : List Member) : Type 0 where
  pub of : Recording
  pub at : ℕ
  pub there : IsIn of all
  pub named : of.name ≡ name
  pub within : at < length of.events
  pub is : clock ≡ (logged_at all of at).clock

-- The last clock of a record before its event at a place.
abbrev pub IsLastOwn : List Recording → Recording → ℕ → List Member → Type 0
IsLastOwn all own zero clock = clock ≡ []
IsLastOwn all own (suc i) clock = clock ≡ (logged_at all own i).clock

-- What stands before the event of a record at a place.
pub record Precede (all : List Recording) (own : Recording) (i : ℕ) (earlier : List Event) : Type 0 where
  pub others : (name : List ℕ) → (last_clock name earlier ≡ []) ⊎ EventOf all name (last_clock name earlier)
  pub own_last : IsLastOwn all own i (last_clock own.name earlier)

not_both : (a b : Bool) → (a ≡ true → b ≡ true → ⊥) → (a && b) ≡ false
not_both true true never = absurd (never refl refl)
not_both true false never = refl
not_both false b never = refl

at_most : (m n : ℕ) → nat_le m n ≡ true → m ≤ n
at_most m n is = grind (arith, nat_tests)

any_false : (f : Member → Bool) (g : Recording → Member) (some : List Recording)
    → ((one : Recording) → IsIn one some → f (g one) ≡ false) → list_any f (map g some) ≡ false
any_false f g [] none = refl
any_false f g (first ∷ others) none =
    rw (none first (inl refl)) (any_false f g others (λ one later. none one (inr later)))

module _ (all : List Recording) (own : Recording) (are : Distinct all) (here : IsIn own all) (kept : IsKept own) where
  -- The numbers rise along a record.
  number_rises : (i : ℕ) (one : Recording) → suc i < length own.events → number_in own i one ≤ number_in own (suc i) one
  number_rises i one within = by (one.process == own.process) refl
    where
      rises : number_known one (counted one.process (recorded_at own.events i))
          ≤ number_known one (counted one.process (recorded_at own.events (suc i)))
      rises = known_rises one _ _ (kept.in_order i (suc i) (omega arith) within one.process)

      by : (b : Bool) → (one.process == own.process) ≡ b → number_in own i one ≤ number_in own (suc i) one
      by true is = rw is (omega arith)
      by false is = rw is rises

  own_rises : (i : ℕ) (last : List Member) → IsLastOwn all own i last
      → nat_lt (number_of own.name last) (number_of own.name (logged_at all own i).clock) ≡ true
  unfolding number_of
  own_rises zero last is =
      let now = own_in all own zero are here in
      rw is (lt-ltb _ _ (omega (arith, now)))
  own_rises (suc i) last is =
      let now = own_in all own (suc i) are here in
      let before = own_in all own i are here in
      rw is (lt-ltb _ _ (omega (arith, now, before)))

  none_falls : (i : ℕ) (last : List Member) → i < length own.events → IsLastOwn all own i last
      → falls last (logged_at all own i).clock ≡ false
  none_falls zero last within is = rw is refl
  none_falls (suc i) last within is =
      rw is (any_false (λ one. nat_lt (number_of one.name (logged_at all own (suc i)).clock) one.number) (member_of own i)
      all (λ one there. lt-leb _ _ (omega (arith, number_some own (suc i) all one are there, number_rises i one within))))

  now_is : (i : ℕ) → number_of own.name (logged_at all own i).clock ≡ own.passed + i + 1
  now_is i = own_in all own i are here

  own_before : (i : ℕ) (last : List Member) → IsLastOwn all own i last → number_of own.name last < own.passed + i + 1
  unfolding number_of
  own_before zero last is = rw is (omega arith)
  own_before (suc i) last is = rw is (omega (arith, now_is i))

  -- No two events know each other.
  module _ (i : ℕ) (earlier : List Event) (one_run : AreOfOneRun all)
      (within : i < length own.events) (before : Precede all own i earlier) where
    never_none : (one : Recording) → last_clock one.name earlier ≡ []
        → own.passed + i + 1 ≤ number_of own.name (last_clock one.name earlier) → ⊥
    unfolding number_of
    never_none one none back =
        let nothing_there : number_of own.name (last_clock one.name earlier) ≡ 0 = ap (number_of own.name) none in
        omega (arith, nothing_there, back)

    never_own : (one : Recording) → one ≡ own
        → own.passed + i + 1 ≤ number_of own.name (last_clock one.name earlier) → ⊥
    never_own one is back =
        let last : number_of own.name (last_clock own.name earlier) < own.passed + i + 1 =
        own_before i (last_clock own.name earlier) before.own_last in
        let same = ap (λ (r : Recording). number_of own.name (last_clock r.name earlier)) is in
        omega (arith, last, same, back)

    never_other : (one : Recording) → IsIn one all → IsKept one → own.process ≢ one.process
        → EventOf all one.name (last_clock one.name earlier)
        → number_of one.name (last_clock one.name earlier) ≤ number_in own i one
        → own.passed + i + 1 ≤ number_of own.name (last_clock one.name earlier) → ⊥
    never_other one there one_kept differ event forth back =
        let same : event.of ≡ one = same_name all event.of one are event.there there event.named in
        let within' : event.at < length one.events = subst (λ (r : Recording). event.at < length r.events) same event.within in
        let clock : last_clock one.name earlier ≡ (logged_at all one event.at).clock =
        event.is ∙ ap (λ (r : Recording). (logged_at all r event.at).clock) same in
        let forth' = ap (number_of one.name) clock ∙ own_in all one event.at are there in
        let back' = ap (number_of own.name) clock ∙ other_in all one own event.at are here (λ p. differ (sym p)) in
        let knows = known_before one _ event.at within' (omega (arith, forth, forth', other_number own i one differ)) in
        let known = known_before own _ i within (omega (arith, back, back')) in
        one_run own one i event.at (contains all own here) (contains all one there) differ within within' knows known

    never : (one : Recording) → IsIn one all → IsKept one
        → number_of one.name (last_clock one.name earlier) ≤ number_in own i one
        → own.passed + i + 1 ≤ number_of own.name (last_clock one.name earlier) → ⊥
    never one there one_kept forth back = by_process (own.process == one.process) refl (before.others one.name)
      where
        by_process : (b : Bool) → (own.process == one.process) ≡ b
            → (last_clock one.name earlier ≡ []) ⊎ EventOf all one.name (last_clock one.name earlier) → ⊥
        by_process b is (inl none) = never_none one none back
        by_process true is (inr event) =
            never_own one (sym (same_process all own one are here there (grind (arith, nat_tests)))) back
        by_process false is (inr event) =
            never_other one there one_kept (λ same. grind (arith, nat_tests)) event forth back

    no_cycle : ((one : Recording) → IsIn one all → IsKept one)
        → is_in_cycle (λ name. last_clock name earlier) own.name (logged_at all own i).clock ≡ false
    no_cycle all_kept =
        let number = number_of own.name (logged_at all own i).clock in
        let number_is : number ≡ own.passed + i + 1 = now_is i in
        any_false (closes_cycle (λ name. last_clock name earlier) own.name number) (member_of own i) all (λ one there.
        let last = last_clock one.name earlier in
        not_both (nat_lt (number_of one.name (last_clock own.name earlier)) (number_in own i one))
        (know_each_other own.name number (member_of own i one) last) (λ rises knows.
        let both = both_true (nat_le (number_of one.name last) (number_in own i one)) (nat_le number (number_of own.name last))
        knows in
        let back = at_most number (number_of own.name last) both.1 in
        never one there (all_kept one there) (at_most (number_of one.name last) (number_in own i one) both.0)
        (omega (arith, number_is, back))))

    pub may_come : ((one : Recording) → IsIn one all → IsKept one)
        → may_follow earlier own.name (logged_at all own i).clock ≡ Ok tt
    may_come all_kept =
        rw (own_rises i _ before.own_last, none_falls i _ within before.own_last, no_cycle all_kept) refl
