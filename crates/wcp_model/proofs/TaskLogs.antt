use Rattle.wcp_model.proofs.Words.{◌≡◌, ℕ, zero, suc, Bool, true, false, Some, List, [], ◌∷◌, ◌++◌, length, cond}
use Rattle.wcp_model.proofs.Words.{count_by, map, filter, fold, slice_get, take, refl, sym, ap, ◌∙◌, arith, scan, zip}
use Rattle.wcp_model.proofs.Words.{slice_get-map, append-nil, map-append, map_push, length-map, filter-append}
use Rattle.wcp_model.proofs.Words.{fold-append, Action, Task, Call, ProbeSetup, after_call, state_of_log, actions_of}
use Rattle.wcp_model.proofs.Words.{IsCallFor, FollowsActions, beside, clocks_after, stamp_of, stamps_sent, stamps_got}
use Rattle.wcp_model.proofs.Words.{is_task_of, is_send_to, is_receive_from}
use Rattle.wcp_model.proofs.SamePlace.{count_by_yes}

-- one more element, which is kept or not
kept-push : {X Y : Type 0} (f : X → Y) (keeps : X → Bool) (xs : List X) (x : X)
    → map f (filter keeps (xs ++ x ∷ [])) ≡ map f (filter keeps xs) ++ cond (keeps x) (f x ∷ []) []
kept-push {X} {Y} f keeps xs x = grind (arith, filter-append, map-append)

zip-push : {X Y : Type 0} (xs : List X) (ys : List Y) (x : X) (y : Y) → length xs ≡ length ys
    → zip (xs ++ x ∷ []) (ys ++ y ∷ []) ≡ zip xs ys ++ (x, y) ∷ []
zip-push [] [] x y same = refl
zip-push [] (other ∷ ys) x y same = absurd (omega (arith, same))
zip-push (other ∷ xs) [] x y same = absurd (omega (arith, same))
zip-push (other ∷ xs) (also ∷ ys) x y same =
    ap (λ rest. (other, also) ∷ rest) (zip-push xs ys x y (omega (arith, same)))

scan-push : {S X Y : Type 0} (next : S → X → S) (out : S → X → Y) (start : S) (xs : List X) (x : X)
    → scan next out start (xs ++ x ∷ []) ≡ scan next out start xs ++ out (fold next start xs) x ∷ []
scan-push next out start [] x = refl
scan-push next out start (other ∷ xs) x =
    ap (λ rest. out start other ∷ rest) (scan-push next out (next start other) xs x)

length-scan : {S X Y : Type 0} (next : S → X → S) (out : S → X → Y) (start : S) (xs : List X)
    → length (scan next out start xs) ≡ length xs
length-scan next out start [] = refl
length-scan next out start (x ∷ xs) = ap suc (length-scan next out (next start x) xs)

-- the element of a scan at a place
scan_at : {S X Y : Type 0} (next : S → X → S) (out : S → X → Y) (start : S) (xs : List X) (place : ℕ) (x : X)
    → slice_get xs place ≡ Some x
    → slice_get (scan next out start xs) place ≡ Some (out (fold next start (take place xs)) x)
scan_at next out start [] place x at = cc
scan_at next out start (first ∷ xs) zero x at = grind arith
scan_at next out start (first ∷ xs) (suc place) x at = scan_at next out (next start first) xs place x at

-- the log with one more call
pub log_push : (made : ProbeSetup) (log : List Call) (call : Call)
    → state_of_log made (log ++ call ∷ []) ≡ after_call made (state_of_log made log) call
log_push made log call = fold-append (after_call made) (state_of_log made []) log (call ∷ [])

-- one more task is one more action of its process alone
pub actions_of-push : (p : ℕ) (tasks : List Task) (task : Task)
    → actions_of p (tasks ++ task ∷ []) ≡ actions_of p tasks ++ cond (is_task_of p task) (task.action ∷ []) []
actions_of-push p tasks task = kept-push (λ (t : Task). t.action) (is_task_of p) tasks task

-- a log that follows actions has a call for each
pub same_length : (actions : List Action) (log : List Call) → FollowsActions actions log → length actions ≡ length log
same_length [] [] follows = refl
same_length [] (call ∷ log) follows = absurd follows
same_length (act ∷ actions) [] follows = absurd follows
same_length (act ∷ actions) (call ∷ log) follows = ap suc (same_length actions log follows.1)

-- with a call for one more action, it follows that too
pub FollowsActions-push : (actions : List Action) (log : List Call) (act : Action) (call : Call)
    → FollowsActions actions log → IsCallFor act call → FollowsActions (actions ++ act ∷ []) (log ++ call ∷ [])
FollowsActions-push [] [] act call follows is = (is, tt)
FollowsActions-push [] (other ∷ log) act call follows is = absurd follows
FollowsActions-push (other ∷ actions) [] act call follows is = absurd follows
FollowsActions-push (other ∷ actions) (also ∷ log) act call follows is =
    (follows.0, FollowsActions-push actions log act call follows.1 is)

-- it has a call for the action at each place
pub call_for : (actions : List Action) (log : List Call) (place : ℕ) (act : Action) → FollowsActions actions log
    → slice_get actions place ≡ Some act → (call : Call) × (slice_get log place ≡ Some call) × IsCallFor act call
call_for [] [] place act follows at = cc
call_for [] (call ∷ log) place act follows at = absurd follows
call_for (first ∷ actions) [] place act follows at = absurd follows
call_for (first ∷ actions) (call ∷ log) zero act follows at = grind arith
call_for (first ∷ actions) (call ∷ log) (suc place) act follows at = call_for actions log place act follows.1 at

-- what stands beside an action that passes, behind what stands beside those before it that do
beside_at : {X : Type 0} (test : Action → Bool) (actions : List Action) (xs : List X) (place : ℕ) (act : Action) (x : X)
    → slice_get actions place ≡ Some act → slice_get xs place ≡ Some x → test act ≡ true
    → slice_get (beside test actions xs) (count_by test (take place actions)) ≡ Some x
beside_at test [] xs place act x at here passes = cc
beside_at test (first ∷ actions) [] place act x at here passes = cc
beside_at test (first ∷ actions) (y ∷ xs) zero act x at here passes = grind arith
beside_at test (first ∷ actions) (y ∷ xs) (suc place) act x at here passes =
    grind (arith, count_by_yes, beside_at test actions xs place act x)

-- as many stand there as actions pass
length-beside : {X : Type 0} (test : Action → Bool) (actions : List Action) (xs : List X) → length actions ≡ length xs
    → length (beside test actions xs) ≡ count_by test actions
length-beside test [] xs same = refl
length-beside test (act ∷ actions) [] same = absurd (omega (arith, same))
length-beside test (act ∷ actions) (x ∷ xs) same =
    grind (arith, count_by_yes, length-beside test actions xs (omega (arith, same)))

-- the stamp of a send to q is the clock of the probe after it
pub stamp_sent_at : (made : ProbeSetup) (q : ℕ) (actions : List Action) (log : List Call) (place : ℕ) (act : Action)
    (call : Call) → slice_get actions place ≡ Some act → slice_get log place ≡ Some call → is_send_to q act ≡ true →
    slice_get (stamps_sent made q actions log) (count_by (is_send_to q) (take place actions)) ≡ Some
    (state_of_log made (take place log ++ call ∷ [])).clock
stamp_sent_at made q actions log place act call at made_call sends =
    beside_at (is_send_to q) actions (clocks_after made log) place act _ at
    (grind (arith, log_push, scan_at)) sends

-- the stamp of a receive from p is the one that it took
pub stamp_got_at : (p : ℕ) (actions : List Action) (log : List Call) (place : ℕ) (act : Action) (call : Call)
    → slice_get actions place ≡ Some act → slice_get log place ≡ Some call → is_receive_from p act ≡ true →
    slice_get (stamps_got p actions log) (count_by (is_receive_from p) (take place actions)) ≡ Some (stamp_of call)
stamp_got_at p actions log place act call at made_call receives =
    search (arith, slice_get-map stamp_of log place, beside_at)

-- one more action with what stands beside it, which stays where it passes
beside-push : {X : Type 0} (test : Action → Bool) (actions : List Action) (xs : List X) (act : Action) (x : X)
    → length actions ≡ length xs
    → beside test (actions ++ act ∷ []) (xs ++ x ∷ []) ≡ beside test actions xs ++ cond (test act) (x ∷ []) []
beside-push {X} test actions xs act x same = grind (arith, kept-push, zip-push)

-- a log that follows actions has a stamp for each send and receive among them
module _ (actions : List Action) (log : List Call) (follows : FollowsActions actions log) where
  a_clock_each : (made : ProbeSetup) → length actions ≡ length (clocks_after made log)
  a_clock_each made = same_length actions log follows
      ∙ sym (length-scan (after_call made) (λ s next. (after_call made s next).clock) (state_of_log made []) log)

  a_stamp_each : length actions ≡ length (map stamp_of log)
  a_stamp_each = same_length actions log follows ∙ sym (length-map log stamp_of)

  pub length-stamps_sent : (made : ProbeSetup) (q : ℕ)
      → length (stamps_sent made q actions log) ≡ count_by (is_send_to q) actions
  length-stamps_sent made q = length-beside (is_send_to q) actions (clocks_after made log) (a_clock_each made)

  pub length-stamps_got : (p : ℕ) → length (stamps_got p actions log) ≡ count_by (is_receive_from p) actions
  length-stamps_got p = length-beside (is_receive_from p) actions (map stamp_of log) a_stamp_each

-- one more call of a log that follows actions
module _ (actions : List Action) (log : List Call) (act : Action) (call : Call)
    (follows : FollowsActions actions log) where
  module _ (made : ProbeSetup) (q : ℕ) where
    -- one more send to q sends it the clock of the probe after it, and no other call does
    pub stamps_sent-push : is_send_to q act ≡ true → stamps_sent made q (actions ++ act ∷ [])
        (log ++ call ∷ []) ≡ stamps_sent made q actions log ++ (state_of_log made (log ++ call ∷ [])).clock ∷ []
    stamps_sent-push sends = grind (arith, a_clock_each, beside-push, log_push, scan-push)

    pub stamps_sent-push_other : is_send_to q act ≡ false
        → stamps_sent made q (actions ++ act ∷ []) (log ++ call ∷ []) ≡ stamps_sent made q actions log
    stamps_sent-push_other other = grind (arith, a_clock_each, append-nil, beside-push, log_push, scan-push)

  module _ (p : ℕ) where
    -- one more receive from p gets the stamp that it took, and no other call does
    pub stamps_got-push : is_receive_from p act ≡ true
        → stamps_got p (actions ++ act ∷ []) (log ++ call ∷ []) ≡ stamps_got p actions log ++ stamp_of call ∷ []
    stamps_got-push receives = grind (arith, a_stamp_each, beside-push, map_push)

    pub stamps_got-push_other : is_receive_from p act ≡ false
        → stamps_got p (actions ++ act ∷ []) (log ++ call ∷ []) ≡ stamps_got p actions log
    stamps_got-push_other other = grind (arith, a_stamp_each, append-nil, beside-push, map_push)
