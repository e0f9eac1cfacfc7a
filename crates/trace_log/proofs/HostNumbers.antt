-- The numbers of hosts, and the clocks that are kept of them.
use Rattle.std.proofs.Common.{◌≡◌, ◌∙◌, ◌<◌, ℕ, zero, suc, Bool, true, false, cond, List, [], ◌∷◌, ◌++◌}
use Rattle.std.proofs.Common.{Option, Some, None, option_map, length, get_or, refl, sym, ap, subst, arith}
use Rattle.std.proofs.Common.{take, drop}
use Rattle.std.proofs.Math.ListN.{set}
use Rattle.std.proofs.Math.Seq.{take-append_seam}
use Rattle.std.proofs.lemmas.List.{get_or_default}
use Rattle.std.specs.Prelude.{nat_lt}
use Rattle.std.proofs.lemmas.Slice.Eq.{bytes_eq-Decides}
use Rattle.std.specs.Str.{bytes_eq}
use Rattle.std.proofs.Common.{Result}
use Rattle.trace_log.specs.declared.fault.LogFaultKind.{LogFaultKind}
use Rattle.trace_log.specs.Clock.{Member, number_of}
use Rattle.trace_log.specs.Look.{LooksOn, renumbered}
use Rattle.trace_log.specs.Order.{is_in_cycle}
use Rattle.trace_log.specs.Hosts.{Host, host_at, number_among, clock_among, AreNumbered, KeepsClock, SpellsNext}

-- What a number says of its host.
pub record IsNumber (name : List ℕ) (hosts : List Host) (i : ℕ) : Type 0 where
  pub within : i < length hosts
  pub named : (host_at hosts i).name ≡ name
  pub clock : clock_among name hosts ≡ (host_at hosts i).clock

suc_is : (o : Option ℕ) (i : ℕ) → option_map (λ n. suc n) o ≡ Some (suc i) → o ≡ Some i
suc_is None i is = cc
suc_is (Some n) i is = ap Some (omega (arith, some_is (suc n) (suc i) is))
  where
    some_is : (a b : ℕ) → Some a ≡ Some b → a ≡ b
    some_is a b same = cc

not_zero : (o : Option ℕ) → option_map (λ n. suc n) o ≡ Some 0 → ⊥
not_zero None is = cc
not_zero (Some n) is =
    let zero_is : suc n ≡ 0 = cc in
    absurd (omega (arith, zero_is))

pub number_is : (name : List ℕ) (hosts : List Host) (i : ℕ) → number_among name hosts ≡ Some i → IsNumber name hosts i
number_is name [] i is = cc
number_is name (host ∷ hosts) i is =
    by_name (λ k there. number_is name hosts k there) (bytes_eq host.name name) refl i is
  where
    by_name : ((k : ℕ) → number_among name hosts ≡ Some k → IsNumber name hosts k) → (b : Bool)
        → bytes_eq host.name name ≡ b → (i : ℕ)
        → cond (bytes_eq host.name name) (Some 0) (option_map (λ n. suc n) (number_among name hosts)) ≡ Some i
        → IsNumber name (host ∷ hosts) i
    by_name later true same zero is =
        record { within = omega arith; named = (bytes_eq-Decides host.name name).0 same; clock = rw same refl }
    by_name later true same (suc i) is =
        let no : Some 0 ≡ Some (suc i) = subst (λ b. cond b (Some 0) (option_map (λ n. suc n) (number_among name hosts))
        ≡ Some (suc i)) same is in
        let zero_is : 0 ≡ suc i = cc in
        absurd (omega (arith, zero_is))
    by_name later false same zero is =
        let no : option_map (λ n. suc n) (number_among name hosts) ≡ Some 0 =
        subst (λ b. cond b (Some 0) (option_map (λ n. suc n) (number_among name hosts)) ≡ Some 0) same is in
        absurd (not_zero (number_among name hosts) no)
    by_name later false same (suc i) is =
        let there : option_map (λ n. suc n) (number_among name hosts) ≡ Some (suc i) =
        subst (λ b. cond b (Some 0) (option_map (λ n. suc n) (number_among name hosts)) ≡ Some (suc i)) same is in
        let rest = later i (suc_is (number_among name hosts) i there) in
        record { within = omega (arith, rest.within); named = rest.named; clock = rw same rest.clock }

-- A host that stays in its place keeps its number.
pub number-set : (hosts : List Host) (i : ℕ) (host : Host) (name : List ℕ) → host.name ≡ (host_at hosts i).name
    → number_among name (set hosts i host) ≡ number_among name hosts
number-set [] i host name same = refl
number-set (first ∷ hosts) zero host name same = rw same refl
number-set (first ∷ hosts) (suc i) host name same =
    ap (λ o. cond (bytes_eq first.name name) (Some 0) (option_map (λ n. suc n) o)) (number-set hosts i host name same)

name-set : (hosts : List Host) (i j : ℕ) (host : Host) → host.name ≡ (host_at hosts i).name
    → (host_at (set hosts i host) j).name ≡ (host_at hosts j).name
name-set [] i j host same = refl
name-set (first ∷ hosts) zero zero host same = same
name-set (first ∷ hosts) zero (suc j) host same = refl
name-set (first ∷ hosts) (suc i) zero host same = refl
name-set (first ∷ hosts) (suc i) (suc j) host same = name-set hosts i j host same

length-set : (hosts : List Host) (i : ℕ) (host : Host) → length (set hosts i host) ≡ length hosts
length-set [] i host = refl
length-set (first ∷ hosts) zero host = refl
length-set (first ∷ hosts) (suc i) host = ap suc (length-set hosts i host)

pub numbered-set : (hosts : List Host) (i : ℕ) (host : Host) → host.name ≡ (host_at hosts i).name
    → AreNumbered hosts → AreNumbered (set hosts i host)
numbered-set hosts i host same numbered j within =
    ap (λ name. number_among name (set hosts i host)) (name-set hosts i j host same)
    ∙ number-set hosts i host (host_at hosts j).name same
    ∙ numbered j (omega (arith, length-set hosts i host, within))

clock-swap : (a b : Bool) (x y z : List Member) → (a ≡ true → b ≡ true → ⊥)
    → cond a x (cond b y z) ≡ cond b y (cond a x z)
clock-swap true true x y z never = absurd (never refl refl)
clock-swap true false x y z never = refl
clock-swap false b x y z never = refl

never_both : (first name other : List ℕ) → bytes_eq first name ≡ false → bytes_eq first other ≡ true
    → bytes_eq name other ≡ true → ⊥
never_both first name other differ a b =
    let yes : bytes_eq first name ≡ true =
    (bytes_eq-Decides first name).1 ((bytes_eq-Decides first other).0 a ∙ sym ((bytes_eq-Decides name other).0 b)) in
    cc

-- The first host with a name gets another clock.
clock-set : (hosts : List Host) (i : ℕ) (host : Host) (name other : List ℕ) → number_among name hosts ≡ Some i
    → host.name ≡ name
    → clock_among other (set hosts i host) ≡ cond (bytes_eq name other) host.clock (clock_among other hosts)
clock-set [] i host name other is named = cc
clock-set (first ∷ hosts) i host name other is named =
    by_name (λ k there. clock-set hosts k host name other there named) (bytes_eq first.name name) refl i is
  where
    by_name : ((k : ℕ) → number_among name hosts ≡ Some k → clock_among other (set hosts k host)
        ≡ cond (bytes_eq name other) host.clock (clock_among other hosts)) → (b : Bool)
        → bytes_eq first.name name ≡ b → (i : ℕ)
        → cond (bytes_eq first.name name) (Some 0) (option_map (λ n. suc n) (number_among name hosts)) ≡ Some i
        → clock_among other (set (first ∷ hosts) i host)
        ≡ cond (bytes_eq name other) host.clock (clock_among other (first ∷ hosts))
    by_name later true same zero is =
        let is_name = (bytes_eq-Decides first.name name).0 same in
        rw (named, is_name) (twice (bytes_eq name other) host.clock first.clock (clock_among other hosts))
      where
        twice : (b : Bool) (x y z : List Member) → cond b x z ≡ cond b x (cond b y z)
        twice true x y z = refl
        twice false x y z = refl
    by_name later true same (suc i) is =
        let no : Some 0 ≡ Some (suc i) = subst (λ b. cond b (Some 0) (option_map (λ n. suc n) (number_among name hosts))
        ≡ Some (suc i)) same is in
        let zero_is : 0 ≡ suc i = cc in
        absurd (omega (arith, zero_is))
    by_name later false same zero is =
        let no : option_map (λ n. suc n) (number_among name hosts) ≡ Some 0 =
        subst (λ b. cond b (Some 0) (option_map (λ n. suc n) (number_among name hosts)) ≡ Some 0) same is in
        absurd (not_zero (number_among name hosts) no)
    by_name later false same (suc i) is =
        let there : option_map (λ n. suc n) (number_among name hosts) ≡ Some (suc i) =
        subst (λ b. cond b (Some 0) (option_map (λ n. suc n) (number_among name hosts)) ≡ Some (suc i)) same is in
        let rest = later i (suc_is (number_among name hosts) i there) in
        ap (λ l. cond (bytes_eq first.name other) first.clock l) rest
        ∙ clock-swap (bytes_eq first.name other) (bytes_eq name other) first.clock host.clock (clock_among other hosts)
        (never_both first.name name other same)

host-set : (hosts : List Host) (i : ℕ) (host : Host) → i < length hosts → host_at (set hosts i host) i ≡ host
host-set [] i host within = absurd (omega arith)
host-set (first ∷ hosts) zero host within = refl
host-set (first ∷ hosts) (suc i) host within = host-set hosts i host (omega arith)

pub keeps-set : (hosts : List Host) (i : ℕ) (host : Host) (name : List ℕ) → number_among name hosts ≡ Some i
    → host.name ≡ name → KeepsClock hosts name host.clock i (set hosts i host)
keeps-set hosts i host name is named =
    let there = host-set hosts i host (number_is name hosts i is).within in
    record {
      named = ap (λ (h : Host). h.name) there ∙ named;
      numbered = ap (λ (h : Host). h.clock) there;
      among = λ other. clock-set hosts i host name other is named;
    }

-- A host comes to the others.
not_first : (b : Bool) (o : Option ℕ) → cond b (Some 0) (option_map (λ n. suc n) o) ≡ None → (b ≡ false) × (o ≡ None)
not_first true o none = cc
not_first false None none = (refl, refl)
not_first false (Some n) none = cc

add-swap : (a b : Bool) (n : ℕ) (o : Option ℕ) → (a ≡ true → b ≡ true → ⊥)
    → cond a (Some 0) (option_map (λ k. suc k) (cond b (Some n) o))
    ≡ cond b (Some (suc n)) (cond a (Some 0) (option_map (λ k. suc k) o))
add-swap true true n o never = absurd (never refl refl)
add-swap true false n o never = refl
add-swap false true n o never = refl
add-swap false false n o never = refl

pub number-add : (hosts : List Host) (host : Host) (name : List ℕ) → number_among host.name hosts ≡ None
    → number_among name (hosts ++ host ∷ [])
    ≡ cond (bytes_eq host.name name) (Some (length hosts)) (number_among name hosts)
number-add [] host name none = refl
number-add (first ∷ hosts) host name none =
    let parts = not_first (bytes_eq first.name host.name) (number_among host.name hosts) none in
    ap (λ o. cond (bytes_eq first.name name) (Some 0) (option_map (λ n. suc n) o)) (number-add hosts host name parts.1)
    ∙ add-swap (bytes_eq first.name name) (bytes_eq host.name name) (length hosts) (number_among name hosts)
    (never_both first.name host.name name parts.0)

clock-add : (hosts : List Host) (host : Host) (name : List ℕ) → number_among host.name hosts ≡ None
    → clock_among name (hosts ++ host ∷ []) ≡ cond (bytes_eq host.name name) host.clock (clock_among name hosts)
clock-add [] host name none = refl
clock-add (first ∷ hosts) host name none =
    let parts = not_first (bytes_eq first.name host.name) (number_among host.name hosts) none in
    ap (λ o. cond (bytes_eq first.name name) first.clock o) (clock-add hosts host name parts.1)
    ∙ clock-swap (bytes_eq first.name name) (bytes_eq host.name name) first.clock host.clock (clock_among name hosts)
    (never_both first.name host.name name parts.0)

host-add : (hosts : List Host) (host : Host) → host_at (hosts ++ host ∷ []) (length hosts) ≡ host
host-add [] host = refl
host-add (first ∷ hosts) host = host-add hosts host

host-before : (hosts : List Host) (host : Host) (j : ℕ) → j < length hosts
    → host_at (hosts ++ host ∷ []) j ≡ host_at hosts j
host-before [] host j within = absurd (omega arith)
host-before (first ∷ hosts) host zero within = refl
host-before (first ∷ hosts) host (suc j) within = host-before hosts host j (omega arith)

length-add : (hosts : List Host) (host : Host) → length (hosts ++ host ∷ []) ≡ suc (length hosts)
length-add [] host = refl
length-add (first ∷ hosts) host = ap suc (length-add hosts host)

pub numbered-add : (hosts : List Host) (host : Host) → number_among host.name hosts ≡ None → AreNumbered hosts
    → AreNumbered (hosts ++ host ∷ [])
numbered-add hosts host none numbered j within = by_place (nat_lt j (length hosts)) refl
  where
    same_name : (b : Bool) → bytes_eq host.name (host_at hosts j).name ≡ b
        → number_among (host_at hosts j).name hosts ≡ Some j
        → cond (bytes_eq host.name (host_at hosts j).name) (Some (length hosts))
        (number_among (host_at hosts j).name hosts) ≡ Some j
    same_name true same there =
        let named = (bytes_eq-Decides host.name (host_at hosts j).name).0 same in
        let no : None ≡ Some j = sym none ∙ ap (λ n. number_among n hosts) named ∙ there in
        cc
    same_name false same there = rw same there

    by_place : (b : Bool) → nat_lt j (length hosts) ≡ b
        → number_among (host_at (hosts ++ host ∷ []) j).name (hosts ++ host ∷ []) ≡ Some j
    by_place true less =
        let before = host-before hosts host j (grind arith) in
        ap (λ (h : Host). number_among h.name (hosts ++ host ∷ [])) before
        ∙ number-add hosts host (host_at hosts j).name none
        ∙ same_name (bytes_eq host.name (host_at hosts j).name) refl (numbered j (grind arith))
    by_place false less =
        let last : j ≡ length hosts = grind (arith, length-add hosts host) in
        let here = ap (λ k. host_at (hosts ++ host ∷ []) k) last ∙ host-add hosts host in
        let is = (bytes_eq-Decides host.name host.name).1 refl in
        ap (λ (h : Host). number_among h.name (hosts ++ host ∷ [])) here
        ∙ number-add hosts host host.name none ∙ rw is (ap Some (sym last))

pub keeps-add : (hosts : List Host) (host : Host) → number_among host.name hosts ≡ None
    → KeepsClock hosts host.name host.clock (length hosts) (hosts ++ host ∷ [])
keeps-add hosts host none = record {
  named = ap (λ (h : Host). h.name) (host-add hosts host);
  numbered = ap (λ (h : Host). h.clock) (host-add hosts host);
  among = λ other. clock-add hosts host other none;
}

-- A look at the clock of the host with a number.
pub spells_next : (hosts : List Host) (name : List ℕ) (spelled : Result (List Member) LogFaultKind) (i : ℕ)
    (next : List ℕ) → number_among name hosts ≡ Some i
    → LooksOn (host_at hosts i).name (host_at hosts i).clock spelled next
    → is_in_cycle (λ other. clock_among other hosts) (host_at hosts i).name (renumbered (host_at hosts i).clock next)
    ≡ false
    → SpellsNext hosts name spelled (renumbered (host_at hosts i).clock next)
spells_next hosts name spelled i next is looked none =
    let number = number_is name hosts i is in
    let clock = (host_at hosts i).clock in
    record {
      is = looked.is;
      rises = rw number.clock (subst (λ n. number_of n clock < number_of n (renumbered clock next)) number.named
          looked.rises);
      none_falls = rw number.clock looked.none_falls;
      in_no_cycle = subst (λ n. is_in_cycle (λ other. clock_among other hosts) n (renumbered clock next) ≡ false)
          number.named none;
    }

pub host_read : (hosts : List Host) (name : List ℕ) (i : ℕ) (host : Host) → number_among name hosts ≡ Some i
    → host ≡ get_or hosts i host → host ≡ host_at hosts i
host_read hosts name i host is read = read ∙ get_or_default hosts i _ _ (number_is name hosts i is).within

pub number_of_view : (hosts seen : List Host) (name : List ℕ) (i : ℕ) (result : Option ℕ) → hosts ≡ seen
    → result ≡ number_among name seen → result ≡ Some i → number_among name hosts ≡ Some i
number_of_view hosts seen name i result same given was =
    ap (λ l. number_among name l) same ∙ sym given ∙ was

-- The numbers of a look, as a vector has them after it.
pub room_kept : (len : ℕ) (old new : List ℕ) → len ≡ length old → length new ≡ length old
    → take len (new ++ drop (length new) old) ≡ new
room_kept len old new size same =
    let long : len ≡ length new = omega (arith, size, same) in
    ap (λ n. take n (new ++ drop (length new) old)) long ∙ take-append_seam new (drop (length new) old)

pub no_clock : (name : List ℕ) (hosts : List Host) → number_among name hosts ≡ None → [] ≡ clock_among name hosts
no_clock name [] none = refl
no_clock name (host ∷ hosts) none =
    let parts = not_first (bytes_eq host.name name) (number_among name hosts) none in
    rw parts.0 (no_clock name hosts parts.1)
