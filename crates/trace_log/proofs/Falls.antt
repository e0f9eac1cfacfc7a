-- Whether a number falls, and the clocks that are kept.
use Rattle.trace_log.proofs.Words.{◌≡◌, ℕ, ◌+◌, ◌<◌, ◌≤◌, Bool, true, false, cond, max, List, [], ◌∷◌, ◌++◌, length}
use Rattle.trace_log.proofs.Words.{get_or, take, Option, Some, unwrap_or, string_bytes, refl, ap, sym, ◌∙◌, subst}
use Rattle.trace_log.proofs.Words.{arith}
use Rattle.trace_log.proofs.Words.{add-one, zero, suc, take-suc, lt-ltb, map-append, take_all, bytes_eq}
use Rattle.trace_log.proofs.Words.{bytes_eq-Decides}
use Rattle.trace_log.proofs.Words.{Member, Event, falls, seen_member, seen_clock}
use Rattle.std.proofs.Math.Dec.{ltb}
use Rattle.std.proofs.lemmas.List.Folds.{list_any-append}
use Rattle.std.specs.Map.{update}
use Rattle.trace_log.specs.declared.event.Member.{Member as OwnMember}
use Rattle.trace_log.specs.Clock.{number_of}
use Rattle.trace_log.specs.Order.{clock_after}

-- The clock up to a member, and with it.
pub seen_clock-next : (clock : List OwnMember) (i : ℕ) (d : OwnMember) → i < length clock → d ≡ get_or clock i d
    → seen_clock (take (i + 1) clock) ≡ seen_clock (take i clock) ++ seen_member d ∷ []
seen_clock-next clock i d within same =
    let next : take (i + 1) clock ≡ take i clock ++ d ∷ [] =
    rw (add-one, take-suc clock i d within) (ap (λ (m : OwnMember). take i clock ++ m ∷ []) (sym same)) in
    ap seen_clock next ∙ map-append seen_member (take i clock) (d ∷ [])

-- One member more.
pub falls-next : (earlier : List OwnMember) (later : List Member) (i : ℕ) (d : OwnMember) → i < length earlier
    → d ≡ get_or earlier i d → falls (seen_clock (take i earlier)) later ≡ false
    → d.number ≤ number_of (string_bytes d.name) later
    → falls (seen_clock (take (i + 1) earlier)) later ≡ false
falls-next earlier later i d within same before reached =
    let next = seen_clock-next earlier i d within same in
    let parts = list_any-append (λ one. ltb (number_of one.name later) one.number) (seen_clock (take i earlier))
    (seen_member d ∷ []) in
    let not_here : ltb (number_of (string_bytes d.name) later) d.number ≡ false = grind arith in
    ap (λ all. falls all later) next ∙ parts ∙ rw (before, not_here) refl

-- No number falls where none of all members does.
pub falls-none : (earlier : List OwnMember) (later : List Member) (i : ℕ) → length earlier ≤ i
    → falls (seen_clock (take i earlier)) later ≡ false → falls (seen_clock earlier) later ≡ false
falls-none earlier later i end before = rw (take_all i earlier end) at before

pub seen-length : (clock : List OwnMember) → length (seen_clock clock) ≡ length clock
seen-length [] = refl
seen-length (one ∷ others) = ap (λ n. suc n) (seen-length others)

-- A member that falls.
pub falls-some : (earlier : List OwnMember) (later : List Member) (i : ℕ) (d : OwnMember) → i < length earlier → d
    ≡ get_or earlier i d → number_of (string_bytes d.name) later < d.number → falls (seen_clock earlier) later ≡ true
falls-some [] later i d within same lower = absurd (omega arith)
falls-some (first ∷ others) later zero d within same lower =
    let here : ltb (number_of (string_bytes d.name) later) d.number ≡ true = lt-ltb _ _ lower in
    let now : ltb (number_of (string_bytes first.name) later) first.number ≡ true =
    subst (λ (m : OwnMember). ltb (number_of (string_bytes m.name) later) m.number ≡ true) same here in
    rw now refl
falls-some (first ∷ others) later (suc i) d within same lower =
    let rest = falls-some others later i d (omega arith) same lower in
    grind arith

-- A member's number is no greater than that of its name.
pub le-number_of : (clock : List OwnMember) (i : ℕ) (d : OwnMember) → i < length clock → d ≡ get_or clock i d
    → d.number ≤ number_of (string_bytes d.name) (seen_clock clock)
unfolding number_of
le-number_of [] i d within same = absurd (omega arith)
le-number_of (first ∷ others) zero d within same =
    let named : bytes_eq (string_bytes first.name) (string_bytes d.name) ≡ true =
    (bytes_eq-Decides _ _).1 (ap (λ (m : OwnMember). string_bytes m.name) (sym same)) in
    let numbered : d.number ≡ first.number = ap (λ (m : OwnMember). m.number) same in
    rw named (omega arith)
le-number_of (first ∷ others) (suc i) d within same =
    let rest = le-number_of others i d (omega arith) same in
    at_least (bytes_eq (string_bytes first.name) (string_bytes d.name)) first.number _ _ rest
  where
    at_least : (b : Bool) (m n k : ℕ) → k ≤ n → k ≤ cond b (max m n) n
    at_least true m n k le = omega arith
    at_least false m n k le = le

-- The same of a member with this name that has no lower number.
pub reached-in_place : (clock : List OwnMember) (i : ℕ) (d one : OwnMember) → i < length clock → d ≡ get_or clock i d
    → one.number ≤ d.number → bytes_eq (string_bytes d.name) (string_bytes one.name) ≡ true
    → one.number ≤ number_of (string_bytes one.name) (seen_clock clock)
reached-in_place clock i d one within same no_lower named =
    let reached = le-number_of clock i d within same in
    let one_name : string_bytes d.name ≡ string_bytes one.name = (bytes_eq-Decides _ _).0 named in
    omega (arith, reached, ap (λ text. number_of text (seen_clock clock)) one_name)

-- The numbers of a clock in a map, with one member more.
pub numbers-next : (old new : List ℕ → Option ℕ) (before : List ℕ → ℕ) (name : List ℕ) (number had now : ℕ)
    → now ≡ max number had → ((q : List ℕ) → new q ≡ update bytes_eq old name (Some now) q)
    → ((q : List ℕ) → unwrap_or (old q) 0 ≡ before q) → had ≡ unwrap_or (old name) 0
    → (q : List ℕ) → unwrap_or (new q) 0 ≡ cond (bytes_eq name q) (max number (before q)) (before q)
numbers-next old new before name number had now raised sets so_far is q = ap (λ o. unwrap_or o 0) (sets q)
    ∙ by_name (bytes_eq name q) refl
  where
    by_name : (b : Bool) → bytes_eq name q ≡ b → unwrap_or (cond (bytes_eq name q) (Some now) (old q)) 0 ≡ cond
        (bytes_eq name q) (max number (before q)) (before q)
    by_name true same =
        let one : name ≡ q = (bytes_eq-Decides name q).0 same in
        let then_had : had ≡ before q = is ∙ ap (λ n. unwrap_or (old n) 0) one ∙ so_far q in
        rw same (raised ∙ ap (λ n. max number n) then_had)
    by_name false differs = rw differs (so_far q)

-- The clock of a host after one event more.
pub clock_after-push : (host : List ℕ) (clock : List Member) (events : List Event) (event : Event) → clock_after host
    clock (events ++ event ∷ []) ≡ cond (bytes_eq event.host host) event.clock (clock_after host clock events)
unfolding clock_after
clock_after-push host clock [] event = refl
clock_after-push host clock (first ∷ events) event =
    clock_after-push host (cond (bytes_eq first.host host) first.clock clock) events event
