-- What a search takes of one event more, and the clock that the last one taken of a host has.
use Rattle.trace_detect.proofs.Words.{◌≡◌, ◌∙◌, ℕ, Bool, true, false, cond, List, [], ◌∷◌, ◌++◌, Option, Some, None}
use Rattle.trace_detect.proofs.Words.{refl}
use Rattle.trace_detect.proofs.Words.{sym, ap, append_assoc, append-nil, option_to_list, bytes_eq, Member, Logged}
use Rattle.trace_detect.proofs.Words.{clock_after, Condition, taken_from, taken_after, condition_at}
use Rattle.trace_log.specs.LoggedEvents.{events_of}
use Rattle.trace_moment.specs.Moment.{events_of as events_taken}
use Rattle.std.proofs.lemmas.Slice.Eq.{bytes_eq-Decides}

-- One event more.
pub taken_more : (conditions : List Condition) (before later : List Logged) (one : Logged)
    → taken_from conditions before (later ++ one ∷ [])
    ≡ taken_from conditions before later ++ option_to_list (taken_after conditions (before ++ later) one)
unfolding taken_from
taken_more conditions before [] one =
    append-nil (option_to_list (taken_after conditions before one))
    ∙ ap (λ l. option_to_list (taken_after conditions l one)) (sym (append-nil before))
taken_more conditions before (first ∷ later) one =
    let start = option_to_list (taken_after conditions before first) in
    ap (λ l. start ++ l) (taken_more conditions (before ++ first ∷ []) later one
    ∙ ap (λ l. taken_from conditions (before ++ first ∷ []) later ++ option_to_list (taken_after conditions l one))
    (append_assoc before (first ∷ []) later))
    ∙ sym (append_assoc start (taken_from conditions (before ++ first ∷ []) later)
    (option_to_list (taken_after conditions (before ++ first ∷ later) one)))

not_this : (conditions : List Condition) (host other : List ℕ) (condition : Condition)
    → condition_at host conditions ≡ Some condition → condition_at other conditions ≡ None → bytes_eq other host ≡ false
not_this conditions host other condition watched none = of (bytes_eq other host) refl
  where
    of : (same : Bool) → bytes_eq other host ≡ same → bytes_eq other host ≡ false
    of true is =
        let one : other ≡ host = (bytes_eq-Decides other host).0 is in
        let clash : None ≡ Some condition = sym none ∙ ap (λ h. condition_at h conditions) one ∙ watched in absurd (cc)
    of false is = is

clock_of_one : (conditions : List Condition) (host : List ℕ) (condition : Condition) (clock : List Member)
    (before later : List Logged) (one : Logged) (found : Option Condition)
    → condition_at host conditions ≡ Some condition → condition_at one.event.host conditions ≡ found
    → ((after : List Member) → clock_after host after (events_taken (taken_from conditions (before ++ one ∷ []) later))
    ≡ clock_after host after (events_of later))
    → clock_after host clock (events_taken (taken_from conditions before (one ∷ later)))
    ≡ clock_after host clock (events_of (one ∷ later))
unfolding taken_from clock_after
clock_of_one conditions host condition clock before later one (Some found) watched is rest =
    rw is (rest (cond (bytes_eq one.event.host host) one.event.clock clock))
clock_of_one conditions host condition clock before later one None watched is rest =
    rw is (rest clock ∙ ap (λ b. clock_after host (cond b one.event.clock clock) (events_of later))
    (sym (not_this conditions host one.event.host condition watched is)))

-- The clock that a watched host's last event has is that of the last one taken.
pub clock_taken : (conditions : List Condition) (host : List ℕ) (condition : Condition) (clock : List Member)
    (before later : List Logged) → condition_at host conditions ≡ Some condition
    → clock_after host clock (events_taken (taken_from conditions before later))
    ≡ clock_after host clock (events_of later)
unfolding taken_from clock_after
clock_taken conditions host condition clock before [] watched = refl
clock_taken conditions host condition clock before (one ∷ later) watched =
    clock_of_one conditions host condition clock before later one (condition_at one.event.host conditions) watched refl
    (λ after. clock_taken conditions host condition after (before ++ one ∷ []) later watched)
