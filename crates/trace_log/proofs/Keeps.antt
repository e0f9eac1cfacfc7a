-- What is kept of the events so far, with one event more.
use Rattle.trace_log.proofs.Words.{◌≡◌, ◌∙◌, Bool, true, false, cond, ℕ, List, [], ◌∷◌, ◌++◌, Ok, refl, ap, sym}
use Rattle.trace_log.proofs.Words.{arith, bytes_eq, lt-ltb, ◌>>=◌, Event, Stamp, KeepsLast, Member}
use Rattle.std.proofs.Math.Dec.{ltb}
use Rattle.std.specs.Prelude.{not}
use Rattle.std.proofs.Common.{Result}
use Rattle.trace_log.specs.declared.fault.LogFaultKind.{LogFaultKind}
use Rattle.trace_log.specs.declared.fault.LogFaultKind.TheVariants as kind
unfoldable use Rattle.trace_log.specs.Clock.{number_of}
use Rattle.trace_log.specs.Hosts.{Host, host_at, clock_among, KeepsClock, SpellsNext}
use Rattle.trace_log.specs.Judgement.{ask}
use Rattle.trace_log.specs.Kept.{stamp_at, stamp_of}
use Rattle.trace_log.specs.Log.{whole}
use Rattle.trace_log.specs.Order.{last_clock, falls, is_in_cycle}
use Rattle.trace_log.proofs.Cycles.{same_cycle}
unfoldable use Rattle.trace_log.specs.Order.{clock_after}
use Rattle.trace_log.proofs.Falls.{clock_after-push}

-- Before the first event nothing is kept.
pub keeps-none : (hosts : List Host) → hosts ≡ [] → KeepsLast hosts []
unfolding clock_after
keeps-none hosts none name = ap (clock_among name) none

-- One clock more is kept.
pub keeps-next : (old new : List Host) (name : List ℕ) (clock : List Member) (number : ℕ) (events : List Event)
    → KeepsLast old events → KeepsClock old name clock number new
    → KeepsLast new (events ++ whole (stamp_at new number) [] ∷ [])
keeps-next old new name clock number events kept is other =
    is.among other
    ∙ ap (λ l. cond (bytes_eq name other) clock l) (kept other)
    ∙ ap (λ n. cond (bytes_eq n other) clock (last_clock other events)) (sym is.named)
    ∙ ap (λ l. cond (bytes_eq (host_at new number).name other) l (last_clock other events)) (sym is.numbered)
    ∙ sym (clock_after-push other [] events (whole (stamp_at new number) []))

-- Whatever the event's text is.
pub keeps-text : (hosts : List Host) (events : List Event) (stamp : Stamp) (text text' : List ℕ)
    → KeepsLast hosts (events ++ whole stamp text ∷ []) → KeepsLast hosts (events ++ whole stamp text' ∷ [])
keeps-text hosts events stamp text text' kept other =
    kept other ∙ clock_after-push other [] events (whole stamp text)
    ∙ sym (clock_after-push other [] events (whole stamp text'))

-- A stamp is the one that stands under its number.
pub stamp_is : (old new : List Host) (name : List ℕ) (clock : List Member) (number : ℕ)
    → KeepsClock old name clock number new → record { host = name; clock = clock } ≡ stamp_at new number
stamp_is old new name clock number is =
    ap (λ n. record { host = n; clock = clock }) (sym is.named)
    ∙ ap (λ c. record { host = (host_at new number).name; clock = c }) (sym is.numbered)

-- A clock that was read at one look is the one that follows.
pub looked_next : (hosts : List Host) (name : List ℕ) (spelled : Result (List Member) LogFaultKind)
    (clock : List Member) (events : List Event) → KeepsLast hosts events → SpellsNext hosts name spelled clock
    → (spelled >>= stamp_of events name) ≡ Ok (record { host = name; clock = clock })
looked_next hosts name spelled clock events kept is =
    let some : ltb 0 (number_of name clock) ≡ true = lt-ltb _ _ (omega (arith, is.rises)) in
    let rises : ltb (number_of name (last_clock name events)) (number_of name clock) ≡ true =
    ap (λ c. ltb (number_of name c) (number_of name clock)) (sym (kept name)) ∙ lt-ltb _ _ is.rises in
    let none : falls (last_clock name events) clock ≡ false =
    ap (λ c. falls c clock) (sym (kept name)) ∙ is.none_falls in
    let no_cycle : is_in_cycle (λ other. last_clock other events) name clock ≡ false =
    sym (same_cycle (λ other. clock_among other hosts) (λ other. last_clock other events) name clock kept)
    ∙ is.in_no_cycle in
    ap (λ r. r >>= stamp_of events name) is.is
    ∙ judged (ltb 0 (number_of name clock)) _ _ _ some rises none no_cycle
  where
    one : Stamp
    one = record { host = name; clock = clock }

    judged : (a b c d : Bool) → a ≡ true → b ≡ true → c ≡ false → d ≡ false
        → (ask a kind.Own >>= λ _. ((ask b kind.Order >>= λ _. ask (not c) kind.Falls) >>= λ _. ask (not d) kind.Cycle)
        >>= λ _. Ok one) ≡ Ok one
    judged a b c d first second third fourth = rw (first, second, third, fourth) refl
