-- What is taken of a log with one event more.
use Rattle.std.proofs.lemmas.Grind.{common_steps}
use Rattle.trace_pairs.proofs.Words.{◌≡◌, ◌∙◌, ℕ, ◌+◌, ◌≤◌, Bool, true, false, cond, List, [], ◌∷◌, ◌++◌, length, map}
use Rattle.trace_pairs.proofs.Words.{refl}
use Rattle.trace_pairs.proofs.Words.{sym, ap, subst, arith, suc, append_assoc, append-nil, length-append, map-append}
use Rattle.trace_pairs.proofs.Words.{filter-append, filter, ◌||◌, bytes_eq, bytes_eq-Decides, Re, Event, Logged, Member}
use Rattle.trace_pairs.proofs.Words.{FollowsIn, Taken, MayFollow, Rule, Text, false≢true, follows, Ok, if◌then◌else◌}
use Rattle.trace_log.specs.LoggedEvents.{events_of}
unfoldable use Rattle.trace_log.specs.Order.{clock_after}
use Rattle.trace_moment.specs.Moment.{events_of as events_taken}
use Rattle.trace_condition.specs.Holding.{holds_at_last}
unfoldable use Rattle.trace_pairs.specs.Taking.{judged_from}
use Rattle.trace_pairs.specs.Taking.{judged_after, judged, is_at, is_at_one, taken_at, taken_by, texts_at}

-- One event more.
pub judged_more : (rule : Rule Re) (before later : List Logged) (one : Logged)
    → judged_from rule before (later ++ one ∷ [])
    ≡ judged_from rule before later ++ judged_after rule (before ++ later) one ∷ []
unfolding judged_from
judged_more rule before [] one = ap (λ l. judged_after rule l one ∷ []) (sym (append-nil before))
judged_more rule before (first ∷ later) one = ap (λ l. judged_after rule before first ∷ l)
    (judged_more rule (before ++ first ∷ []) later one
    ∙ ap (λ l. judged_from rule (before ++ first ∷ []) later ++ judged_after rule l one ∷ [])
    (append_assoc before (first ∷ []) later))

pub filter_push : {X : Type 0} (test : X → Bool) (xs : List X) (x : X) (passes : Bool) → test x ≡ passes
    → filter test (xs ++ x ∷ []) ≡ filter test xs ++ cond passes (x ∷ []) []
filter_push test xs x passes is = filter-append test xs (x ∷ []) ∙ ap (λ b. filter test xs ++ cond b (x ∷ []) []) is

-- Of those that a test picks.
pub picked_more : (test : Taken → Bool) (rule : Rule Re) (before : List Logged) (one : Logged)
    → test (judged_after rule before one) ≡ true
    → filter test (judged rule (before ++ one ∷ [])) ≡ filter test (judged rule before) ++ judged_after rule before one
    ∷ []
picked_more test rule before one is = ap (filter test) (judged_more rule [] before one)
    ∙ filter_push test (judged rule before) (judged_after rule before one) true is

pub picked_same : (test : Taken → Bool) (rule : Rule Re) (before : List Logged) (one : Logged)
    → test (judged_after rule before one) ≡ false
    → filter test (judged rule (before ++ one ∷ [])) ≡ filter test (judged rule before)
picked_same test rule before one is = ap (filter test) (judged_more rule [] before one)
    ∙ filter_push test (judged rule before) (judged_after rule before one) false is
    ∙ append-nil (filter test (judged rule before))

not_this : (test : Taken → Bool) (host : Text) (rule : Rule Re) (before : List Logged) (one : Logged) (same : Bool)
    → ((other : Taken) → bytes_eq other.logged.event.host host ≡ true → test other ≡ true)
    → bytes_eq one.event.host host ≡ same → test (judged_after rule before one) ≡ false
    → bytes_eq one.event.host host ≡ false
not_this test host rule before one true all is fails =
    absurd (false≢true (sym fails ∙ all (judged_after rule before one) is))
not_this test host rule before one false all is fails = is

clock_of_one : (test : Taken → Bool) (host : Text) (rule : Rule Re) (clock : List Member) (before later : List Logged)
    (one : Logged) (picks : Bool) → ((other : Taken) → bytes_eq other.logged.event.host host ≡ true → test other ≡ true)
    → test (judged_after rule before one) ≡ picks
    → ((after : List Member)
    → clock_after host after (events_taken (filter test (judged_from rule (before ++ one ∷ []) later)))
    ≡ clock_after host after (events_of later))
    → clock_after host clock (events_taken (filter test (judged_from rule before (one ∷ later))))
    ≡ clock_after host clock (events_of (one ∷ later))
unfolding judged_from clock_after
clock_of_one test host rule clock before later one true all is rest =
    rw is (rest (cond (bytes_eq one.event.host host) one.event.clock clock))
clock_of_one test host rule clock before later one false all is rest =
    rw is (rest clock ∙ ap (λ b. clock_after host (cond b one.event.clock clock) (events_of later))
    (sym (not_this test host rule before one (bytes_eq one.event.host host) all refl is)))

-- The clock of a host's last event is that of the last one that was picked, where all of its events are.
clock_picked : (test : Taken → Bool) (host : Text) (rule : Rule Re) (clock : List Member) (before later : List Logged)
    → ((other : Taken) → bytes_eq other.logged.event.host host ≡ true → test other ≡ true)
    → clock_after host clock (events_taken (filter test (judged_from rule before later)))
    ≡ clock_after host clock (events_of later)
unfolding judged_from clock_after
clock_picked test host rule clock before [] all = refl
clock_picked test host rule clock before (one ∷ later) all =
    clock_of_one test host rule clock before later one (test (judged_after rule before one)) all refl
    (λ after. clock_picked test host rule after (before ++ one ∷ []) later all)

pub may_picked : (test : Taken → Bool) (rule : Rule Re) (before : List Logged) (one : Logged)
    → ((other : Taken) → bytes_eq other.logged.event.host one.event.host ≡ true → test other ≡ true)
    → FollowsIn before one.event → MayFollow (filter test (judged rule before)) one.event
may_picked test rule before one all follow =
    subst (λ (clock : List Member). follows one.event.host clock one.event.clock ≡ Ok tt)
    (sym (clock_picked test one.event.host rule [] [] before all)) follow

pub few_pass : {X : Type 0} (test : X → Bool) (xs : List X) → length (filter test xs) ≤ length xs
few_pass test [] = omega arith
few_pass test (x ∷ xs) = of (test x) (few_pass test xs)
  where
    of : (passes : Bool) → length (filter test xs) ≤ length xs
        → length (cond passes (x ∷ filter test xs) (filter test xs)) ≤ suc (length xs)
    of true few = omega arith
    of false few = omega arith

pub judged_many : (rule : Rule Re) (before later : List Logged) → length (judged_from rule before later) ≡ length later
unfolding judged_from
judged_many rule before [] = refl
judged_many rule before (one ∷ later) = ap suc (judged_many rule (before ++ one ∷ []) later)

-- The texts of a host's events.
pub texts_other : (host : Text) (logged : List Logged) (one : Logged) → bytes_eq one.event.host host ≡ false
    → texts_at host (logged ++ one ∷ []) ≡ texts_at host logged
texts_other host logged one other = ap (map (λ (l : Logged). l.event.text))
    (filter_push (λ l. bytes_eq l.event.host host) logged one false other
    ∙ append-nil (filter (λ l. bytes_eq l.event.host host) logged))

pub texts_own : (host : Text) (logged : List Logged) (one : Logged) → bytes_eq one.event.host host ≡ true
    → texts_at host (logged ++ one ∷ []) ≡ texts_at host logged ++ one.event.text ∷ []
texts_own host logged one own = ap (map (λ (l : Logged). l.event.text))
    (filter_push (λ l. bytes_eq l.event.host host) logged one true own)
    ∙ map-append (λ (l : Logged). l.event.text) (filter (λ l. bytes_eq l.event.host host) logged) (one ∷ [])
