-- The hosts with one more, and with one changed.
use Rattle.trace_order.proofs.Words.{◌≡◌, ◌∙◌, ℕ, ◌<◌, Bool, true, false, cond, List, [], ◌∷◌, ◌++◌, length, set, refl}
use Rattle.trace_order.proofs.Words.{sym}
use Rattle.trace_order.proofs.Words.{ap, arith, suc, zero, nat_eq, get_or-set_same, get_or-set_other, HostState}
use Rattle.trace_order.proofs.Words.{host_at}
use Rattle.trace_order.specs.State.{waits_in, clocks_in, names_in, waiting_in, name_at, AreDistinct}
use Rattle.std.proofs.lemmas.List.Sums.{sum_by-set}
use Rattle.std.proofs.Common.{take}
use Rattle.trace_order.proofs.Noting.{take_front}
use Rattle.trace_order.specs.Giving.{number_in, with_host}
use Rattle.trace_order.specs.Messages.{MessageEvent}
use Rattle.std.proofs.Math.Dec.{ltb}
use Rattle.std.proofs.lemmas.List.{get_or_append_left, get_or_push, length_push}
use Rattle.std.proofs.lemmas.Bool.{eqb-true, eqb-false, ltb-true, ltb-false}

pub added_waits : (hosts : List HostState) (fresh : HostState) → fresh.waits ≡ [] → (host : ℕ)
    → waits_in (hosts ++ fresh ∷ []) host ≡ waits_in hosts host
added_waits [] fresh none zero = none
added_waits [] fresh none (suc host) = refl
added_waits (first ∷ hosts) fresh none zero = refl
added_waits (first ∷ hosts) fresh none (suc host) = added_waits hosts fresh none host

pub added_clocks : (hosts : List HostState) (fresh : HostState) → fresh.clock ≡ [] → (host : ℕ)
    → clocks_in (hosts ++ fresh ∷ []) host ≡ clocks_in hosts host
added_clocks [] fresh none zero = none
added_clocks [] fresh none (suc host) = refl
added_clocks (first ∷ hosts) fresh none zero = refl
added_clocks (first ∷ hosts) fresh none (suc host) = added_clocks hosts fresh none host

pub changed : {A : Type 0} (f : HostState → A) (hosts : List HostState) (i : ℕ) (new : HostState) → i < length hosts
    → (host : ℕ) → f (host_at (set hosts i new) host) ≡ cond (nat_eq i host) (f new) (f (host_at hosts host))
changed f hosts i new within host = by_host (nat_eq i host) refl
  where
    by_host : (b : Bool) → nat_eq i host ≡ b
        → f (host_at (set hosts i new) host) ≡ cond (nat_eq i host) (f new) (f (host_at hosts host))
    by_host true same =
        let host_is = eqb-true i host same in
        ap (λ h. f (host_at (set hosts i new) h)) (sym host_is) ∙ ap f (get_or-set_same hosts i new _ within)
        ∙ rw same refl
    by_host false differ =
        ap f (get_or-set_other hosts i host new _ (λ same. eqb-false i host differ (sym same))) ∙ rw differ refl

-- A new name is another.
pub added_distinct : (names : List (List ℕ)) (name : List ℕ) → AreDistinct names
    → ((i : ℕ) → i < length names → name_at names i ≡ name → ⊥) → AreDistinct (names ++ name ∷ [])
added_distinct names name distinct new i j first second same =
    by_range (ltb i (length names)) refl (ltb j (length names)) refl
  where
    at_end : (k : ℕ) → k < length (names ++ name ∷ []) → ltb k (length names) ≡ false → k ≡ length names
    at_end k within past =
        let above = ltb-false k (length names) past in
        omega (arith, within, length_push names name, above)

    before : (k : ℕ) → k < length names → name_at (names ++ name ∷ []) k ≡ name_at names k
    before k within = get_or_append_left names (name ∷ []) [] k within

    last : (k : ℕ) → k ≡ length names → name_at (names ++ name ∷ []) k ≡ name
    last k is = get_or_push names name [] k (sym is)

    by_range : (a : Bool) → ltb i (length names) ≡ a → (b : Bool) → ltb j (length names) ≡ b → i ≡ j
    by_range true a true b =
        let one = ltb-true i (length names) a in
        let other = ltb-true j (length names) b in
        distinct i j one other (sym (before i one) ∙ same ∙ before j other)
    by_range true a false b =
        let one = ltb-true i (length names) a in
        absurd (new i one (sym (before i one) ∙ same ∙ last j (at_end j second b)))
    by_range false a true b =
        let other = ltb-true j (length names) b in
        absurd (new j other (sym (before j other) ∙ sym same ∙ last i (at_end i first a)))
    by_range false a false b = at_end i first a ∙ sym (at_end j second b)

pub names_set : (hosts : List HostState) (i : ℕ) (new : HostState) → new.name ≡ (host_at hosts i).name
    → names_in (set hosts i new) ≡ names_in hosts
names_set [] i new same = refl
names_set (first ∷ hosts) zero new same = ap (λ n. n ∷ names_in hosts) same
names_set (first ∷ hosts) (suc i) new same = ap (λ l. first.name ∷ l) (names_set hosts i new same)

pub fewer_wait : (hosts : List HostState) (i : ℕ) (old new : HostState) (event : MessageEvent) → i < length hosts
    → old ≡ host_at hosts i → old.waits ≡ event ∷ new.waits → waiting_in (set hosts i new) < waiting_in hosts
fewer_wait hosts i old new event within read popped =
    let sums = sum_by-set (λ (h : HostState). length h.waits) hosts i new (host_at [] 0) within in
    let count = ap length popped in
    let same = ap (λ (h : HostState). length h.waits) read in
    omega (arith, sums, count, same)

take_all : (hosts : List HostState) → take (length hosts) hosts ≡ hosts
take_all [] = refl
take_all (host ∷ hosts) = ap (λ l. host ∷ l) (take_all hosts)

-- Without the host that came last the others are as before.
pub without_host : (hosts : List HostState) (name : List ℕ) → take (length hosts) (with_host hosts name) ≡ hosts
without_host hosts name = by_place (ltb (number_in hosts name) (length hosts))
  where
    fresh : HostState
    fresh = record { name = name; clock = []; waits = [] }

    by_place : (b : Bool) → take (length hosts) (cond b hosts (hosts ++ fresh ∷ [])) ≡ hosts
    by_place true = take_all hosts
    by_place false = take_front hosts (fresh ∷ [])
