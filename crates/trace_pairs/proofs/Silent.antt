-- A host whose name matches, and that isn't among those that came, has logged nothing.
use Rattle.std.proofs.lemmas.Grind.{common_steps, fold-append}
use Rattle.std.proofs.lemmas.List.Folds.{list_any-append}
use Rattle.trace_pairs.proofs.Words.{◌≡◌, ◌∙◌, ℕ, ◌<◌, Bool, true, false, cond, List, [], ◌∷◌, ◌++◌, length, map, refl}
use Rattle.trace_pairs.proofs.Words.{sym}
use Rattle.trace_pairs.proofs.Words.{ap, subst, arith, zero, suc, filter, ◌||◌, bytes_eq, bytes_eq-Decides, Re, Logged}
use Rattle.trace_pairs.proofs.Words.{Taken, Rule, Text, false≢true, if◌then◌else◌, slice_index_or}
use Rattle.std.specs.Prelude.{◌&&◌, not, fold}
use Rattle.std.specs.List.{list_any}
use Rattle.trace_condition.specs.Holding.{matches}
use Rattle.trace_pairs.specs.Hosts.{host_at, hosts_in, with_host}
unfoldable use Rattle.trace_pairs.specs.Taking.{judged_from}
use Rattle.trace_pairs.specs.Taking.{is_at, is_at_one, judged, judged_after, taken_at, taken_by, texts_at}

-- The hosts, with one event more.
pub hosts_push : (pattern : Re) (before : List Logged) (one : Logged)
    → hosts_in pattern (before ++ one ∷ []) ≡ with_host pattern (hosts_in pattern before) one
hosts_push pattern before one = fold-append (with_host pattern) [] before (one ∷ [])

with_known : (picks : Bool) (hosts : List Text) (name other : Text) → list_any (bytes_eq name) hosts ≡ true
    → list_any (bytes_eq name) (cond picks (hosts ++ other ∷ []) hosts) ≡ true
with_known true hosts name other is =
    list_any-append (bytes_eq name) hosts (other ∷ []) ∙ ap (λ b. b || list_any (bytes_eq name) (other ∷ [])) is
with_known false hosts name other is = is

-- A host stays among them.
stays_known : (pattern : Re) (hosts : List Text) (later : List Logged) (name : Text)
    → list_any (bytes_eq name) hosts ≡ true → list_any (bytes_eq name) (fold (with_host pattern) hosts later) ≡ true
stays_known pattern hosts [] name is = is
stays_known pattern hosts (one ∷ later) name is = stays_known pattern (with_host pattern hosts one) later name
    (with_known (matches pattern one.event.host && not (list_any (bytes_eq one.event.host) hosts)) hosts name
    one.event.host is)

or_true : (b : Bool) → (b || true) ≡ true
or_true true = refl
or_true false = refl

-- One that matches is among them from its first event.
comes_in : (pattern : Re) (hosts : List Text) (name : Text) (known : Bool) → list_any (bytes_eq name) hosts ≡ known
    → list_any (bytes_eq name) (cond (true && not known) (hosts ++ name ∷ []) hosts) ≡ true
comes_in pattern hosts name true is = is
comes_in pattern hosts name false is =
    list_any-append (bytes_eq name) hosts (name ∷ [])
    ∙ ap (λ b. list_any (bytes_eq name) hosts || (b || false)) ((bytes_eq-Decides name name).1 refl)
    ∙ or_true (list_any (bytes_eq name) hosts)

with_new : (pattern : Re) (hosts : List Text) (name : Text) (one : Logged) → one.event.host ≡ name
    → matches pattern name ≡ true → list_any (bytes_eq name) (with_host pattern hosts one) ≡ true
with_new pattern hosts name one is matching =
    ap (λ h. list_any (bytes_eq name)
    (cond (matches pattern h && not (list_any (bytes_eq h) hosts)) (hosts ++ h ∷ []) hosts)) is
    ∙ ap (λ b. list_any (bytes_eq name)
    (cond (b && not (list_any (bytes_eq name) hosts)) (hosts ++ name ∷ []) hosts)) matching
    ∙ comes_in pattern hosts name (list_any (bytes_eq name) hosts) refl

-- No event is of this host.
abbrev pub AreOthers : Text → List Logged → Type 0
AreOthers name [] = Unit {0}
AreOthers name (one ∷ later) = (bytes_eq one.event.host name ≡ false) × AreOthers name later

silent_from : (pattern : Re) (hosts : List Text) (later : List Logged) (name : Text) → matches pattern name ≡ true
    → list_any (bytes_eq name) (fold (with_host pattern) hosts later) ≡ false → AreOthers name later
silent_from pattern hosts [] name matching none = tt
silent_from pattern hosts (one ∷ later) name matching none = (
  is_other (bytes_eq one.event.host name) refl,
  silent_from pattern (with_host pattern hosts one) later name matching none,
)
  where
    is_other : (same : Bool) → bytes_eq one.event.host name ≡ same → bytes_eq one.event.host name ≡ false
    is_other true is = absurd (false≢true (sym none ∙ stays_known pattern (with_host pattern hosts one) later name
        (with_new pattern hosts name one ((bytes_eq-Decides one.event.host name).0 is) matching)))
    is_other false is = is

-- A host at a place is among them, and one at none isn't.
pub any_at : (hosts : List Text) (p : ℕ) (name : Text) → p < length hosts → host_at hosts p ≡ name
    → list_any (bytes_eq name) hosts ≡ true
any_at [] p name within is = absurd (omega (arith, within))
any_at (first ∷ hosts) zero name within is =
    ap (λ b. b || list_any (bytes_eq name) hosts) ((bytes_eq-Decides name first).1 (sym is))
any_at (first ∷ hosts) (suc p) name within is =
    ap (λ b. bytes_eq name first || b) (any_at hosts p name (omega (arith, within)) is) ∙ or_true (bytes_eq name first)

pub any_none : (hosts : List Text) (name : Text) → ((p : ℕ) → p < length hosts → host_at hosts p ≡ name → ⊥)
    → list_any (bytes_eq name) hosts ≡ false
any_none [] name none = refl
any_none (first ∷ hosts) name none =
    ap (λ b. b || list_any (bytes_eq name) hosts) (not_first (bytes_eq name first) refl)
    ∙ any_none hosts name (λ p within is. none (suc p) (omega (arith, within)) is)
  where
    not_first : (same : Bool) → bytes_eq name first ≡ same → bytes_eq name first ≡ false
    not_first true is = absurd (none 0 (omega arith) (sym ((bytes_eq-Decides name first).0 is)))
    not_first false is = is

pub silent : (pattern : Re) (before : List Logged) (name : Text) → matches pattern name ≡ true
    → ((p : ℕ) → p < length (hosts_in pattern before) → host_at (hosts_in pattern before) p ≡ name → ⊥)
    → AreOthers name before
silent pattern before name matching none =
    silent_from pattern [] before name matching (any_none (hosts_in pattern before) name none)

-- So nothing is counted of it, and nothing taken.
pub none_logged : (name : Text) (logged : List Logged) → AreOthers name logged
    → filter (λ (one : Logged). bytes_eq one.event.host name) logged ≡ []
none_logged name [] others = refl
none_logged name (one ∷ later) others = rw others.0 (none_logged name later others.1)

pub none_taken : (name : Text) (rule : Rule Re) (before later : List Logged) → AreOthers name later
    → filter (is_at name) (judged_from rule before later) ≡ []
unfolding judged_from
none_taken name rule before [] others = refl
none_taken name rule before (one ∷ later) others =
    rw others.0 (none_taken name rule (before ++ one ∷ []) later others.1)

pub only_first : (first name : Text) (rule : Rule Re) (before later : List Logged) → AreOthers name later
    → filter (is_at_one first name) (judged_from rule before later) ≡ filter (is_at first)
    (judged_from rule before later)
unfolding judged_from
only_first first name rule before [] others = refl
only_first first name rule before (one ∷ later) others = rw others.0
    (by_first (bytes_eq one.event.host first) (only_first first name rule (before ++ one ∷ []) later others.1))
  where
    by_first : (is : Bool) → filter (is_at_one first name) (judged_from rule (before ++ one ∷ []) later)
        ≡ filter (is_at first) (judged_from rule (before ++ one ∷ []) later)
        → cond (is || false) (judged_after rule before one
        ∷ filter (is_at_one first name) (judged_from rule (before ++ one ∷ []) later))
        (filter (is_at_one first name) (judged_from rule (before ++ one ∷ []) later))
        ≡ cond is (judged_after rule before one ∷ filter (is_at first) (judged_from rule (before ++ one ∷ []) later))
        (filter (is_at first) (judged_from rule (before ++ one ∷ []) later))
    by_first true rest = ap (λ l. judged_after rule before one ∷ l) rest
    by_first false rest = rest

-- The hosts stay the same where the event's host is known, or doesn't match; or it is added.
pub hosts_same : (pattern : Re) (hosts : List Text) (one : Logged) (name : Text) → one.event.host ≡ name
    → list_any (bytes_eq name) hosts ≡ true → with_host pattern hosts one ≡ hosts
hosts_same pattern hosts one name is known =
    ap (λ h. cond (matches pattern h && not (list_any (bytes_eq h) hosts)) (hosts ++ h ∷ []) hosts) is
    ∙ ap (λ b. cond (matches pattern name && not b) (hosts ++ name ∷ []) hosts) known
    ∙ neither (matches pattern name)
  where
    neither : (b : Bool) → cond (b && false) (hosts ++ name ∷ []) hosts ≡ hosts
    neither true = refl
    neither false = refl

pub hosts_other : (pattern : Re) (hosts : List Text) (one : Logged) (name : Text) → one.event.host ≡ name
    → matches pattern name ≡ false → with_host pattern hosts one ≡ hosts
hosts_other pattern hosts one name is fails =
    ap (λ h. cond (matches pattern h && not (list_any (bytes_eq h) hosts)) (hosts ++ h ∷ []) hosts) is
    ∙ ap (λ b. cond (b && not (list_any (bytes_eq name) hosts)) (hosts ++ name ∷ []) hosts) fails

pub hosts_added : (pattern : Re) (hosts : List Text) (one : Logged) (name : Text) → one.event.host ≡ name
    → matches pattern name ≡ true → list_any (bytes_eq name) hosts ≡ false
    → with_host pattern hosts one ≡ hosts ++ name ∷ []
hosts_added pattern hosts one name is matching new =
    ap (λ h. cond (matches pattern h && not (list_any (bytes_eq h) hosts)) (hosts ++ h ∷ []) hosts) is
    ∙ ap (λ b. cond (b && not (list_any (bytes_eq name) hosts)) (hosts ++ name ∷ []) hosts) matching
    ∙ ap (λ b. cond (true && not b) (hosts ++ name ∷ []) hosts) new
