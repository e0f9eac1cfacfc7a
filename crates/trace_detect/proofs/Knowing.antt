-- What a judge knows of its host's events, with one event of the log more.
use Rattle.trace_detect.proofs.Words.{◌≡◌, ◌∙◌, ◌+◌, ℕ, Bool, true, false, cond, List, [], ◌∷◌, ◌++◌, Option, Some}
use Rattle.trace_detect.proofs.Words.{None}
use Rattle.trace_detect.proofs.Words.{length, map, option_map, refl, sym, ap, subst, append-nil, length-append}
use Rattle.trace_detect.proofs.Words.{map-append, filter-append, filter, option_to_list, if◌then◌else◌, ◌&&◌, bytes_eq}
use Rattle.trace_detect.proofs.Words.{Logged, Taken, Condition, host_of, rule_of, holds_at_last, Judged, events_at}
use Rattle.trace_detect.proofs.Words.{texts_at, condition_at, taken_after, taken_of, count_matched, JudgesNext, Knows}
use Rattle.std.proofs.lemmas.Slice.Eq.{bytes_eq-Decides}
use Rattle.trace_condition.specs.Judging.{HasJudged}
use Rattle.trace_detect.proofs.Taking.{taken_more}

filter_push : {X : Type 0} (test : X → Bool) (xs : List X) (x : X) (passes : Bool) → test x ≡ passes
    → filter test (xs ++ x ∷ []) ≡ filter test xs ++ cond passes (x ∷ []) []
filter_push test xs x passes is = filter-append test xs (x ∷ []) ∙ ap (λ b. filter test xs ++ cond b (x ∷ []) []) is

texts_other : (host : List ℕ) (logged : List Logged) (one : Logged) → bytes_eq one.event.host host ≡ false
    → texts_at host (logged ++ one ∷ []) ≡ texts_at host logged
texts_other host logged one other =
    ap (map (λ one. one.event.text))
    (filter_push (λ one. bytes_eq one.event.host host) logged one false other ∙ append-nil (events_at host logged))

texts_own : (host : List ℕ) (logged : List Logged) (one : Logged) → bytes_eq one.event.host host ≡ true
    → texts_at host (logged ++ one ∷ []) ≡ texts_at host logged ++ one.event.text ∷ []
texts_own host logged one own =
    ap (map (λ one. one.event.text)) (filter_push (λ one. bytes_eq one.event.host host) logged one true own)
    ∙ map-append (λ one. one.event.text) (events_at host logged) (one ∷ [])

and_false : (b : Bool) → (b && false) ≡ false
and_false true = refl
and_false false = refl

and_true : (b : Bool) → (b && true) ≡ b
and_true true = refl
and_true false = refl

counted : {X : Type 0} (xs : List X) (x : X) (passes : Bool)
    → length (xs ++ cond passes (x ∷ []) []) ≡ length xs + (if passes then 1 else 0)
counted xs x true = length-append xs (x ∷ [])
counted xs x false = length-append xs []

matched_other : (conditions : List Condition) (host : List ℕ) (taken : List Taken) (before : List Logged) (one : Logged)
    (found : Option Condition) → condition_at one.event.host conditions ≡ found → bytes_eq one.event.host host ≡ false
    → count_matched host (taken ++ option_to_list (taken_after conditions before one)) ≡ count_matched host taken
matched_other conditions host taken before one None is other = rw is (ap (count_matched host) (append-nil taken))
matched_other conditions host taken before one (Some found) is other = rw is (
    let holds = holds_at_last (rule_of found) (texts_at one.event.host (before ++ one ∷ [])) in
    ap length (filter_push (λ t. t.holds && bytes_eq t.logged.event.host host) taken
    (record { logged = one; holds = holds }) false (ap (λ b. holds && b) other ∙ and_false holds)
    ∙ append-nil (filter (λ t. t.holds && bytes_eq t.logged.event.host host) taken))
    )

-- The event is another host's.
pub knows_other : (conditions : List Condition) (before : List Logged) (one : Logged) (condition : Condition)
    (judge : Judged) → bytes_eq one.event.host (host_of condition) ≡ false
    → Knows conditions before condition judge → Knows conditions (before ++ one ∷ []) condition judge
knows_other conditions before one condition judge other knows =
    let host = host_of condition in
    record {
      judged = subst (λ texts. HasJudged (rule_of condition) texts judge.judge)
          (sym (texts_other host before one other)) knows.judged;
      events = knows.events ∙ sym (ap length
          (filter_push (λ one. bytes_eq one.event.host host) before one false other
          ∙ append-nil (events_at host before)));
      matched = knows.matched ∙ sym (ap (count_matched host) (taken_more conditions [] before one)
          ∙ matched_other conditions host (taken_of conditions before) before one
          (condition_at one.event.host conditions) refl other);
    }

-- The event is the host's own.
pub holds_own : (conditions : List Condition) (before : List Logged) (one : Logged) (condition : Condition)
    (judge judge' : Judged) (holds : Bool) → host_of condition ≡ one.event.host
    → Knows conditions before condition judge → JudgesNext judge one.event.text holds judge'
    → holds ≡ holds_at_last (rule_of condition) (texts_at one.event.host (before ++ one ∷ []))
holds_own conditions before one condition judge judge' holds of knows next =
    let own = (bytes_eq-Decides one.event.host (host_of condition)).1 (sym of) in
    (next.judged (rule_of condition) (texts_at (host_of condition) before) knows.judged).0
    ∙ ap (holds_at_last (rule_of condition))
    (sym (texts_own (host_of condition) before one own) ∙ ap (λ h. texts_at h (before ++ one ∷ [])) of)

pub knows_own : (conditions : List Condition) (before : List Logged) (one : Logged) (condition : Condition)
    (judge judge' : Judged) (holds : Bool) → condition_at one.event.host conditions ≡ Some condition
    → host_of condition ≡ one.event.host
    → Knows conditions before condition judge → JudgesNext judge one.event.text holds judge'
    → Knows conditions (before ++ one ∷ []) condition judge'
knows_own conditions before one condition judge judge' holds found of knows next =
    let host = host_of condition in
    let own = (bytes_eq-Decides one.event.host host).1 (sym of) in
    let judged = next.judged (rule_of condition) (texts_at host before) knows.judged in
    let as_held = sym (holds_own conditions before one condition judge judge' holds of knows next) in
    let last = holds_at_last (rule_of condition) (texts_at one.event.host (before ++ one ∷ [])) in
    let test = λ (t : Taken). t.holds && bytes_eq t.logged.event.host host in
    let taken : taken_of conditions (before ++ one ∷ [])
    ≡ taken_of conditions before ++ record { logged = one; holds = last } ∷ [] =
    taken_more conditions [] before one ∙ ap (λ o. taken_of conditions before ++ option_to_list
    (option_map (λ c. record
    { logged = one; holds = holds_at_last (rule_of c) (texts_at one.event.host (before ++ one ∷ [])) }) o)) found in
    record {
      judged =
          subst (λ texts. HasJudged (rule_of condition) texts judge'.judge)
          (sym (texts_own host before one own)) judged.1;
      events = next.events ∙ ap (λ n. n + 1) knows.events
          ∙ sym (ap length (filter_push (λ one. bytes_eq one.event.host host) before one true own)
          ∙ length-append (events_at host before) (one ∷ []));
      matched = next.matched ∙ ap (λ n. n + (if holds then 1 else 0)) knows.matched
          ∙ sym (ap (count_matched host) taken
          ∙ ap length (filter_push test (taken_of conditions before) (record { logged = one; holds = last }) holds
          (ap (λ b. last && b) own ∙ and_true last ∙ as_held))
          ∙ counted (filter test (taken_of conditions before)) (record { logged = one; holds = last }) holds);
    }
