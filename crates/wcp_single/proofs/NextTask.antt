use Rattle.wcp_single.proofs.Words.{NumberSet, Flag, common_steps, ◌≡◌, ◌≢◌, ◌==◌, ◌&&◌, ℕ, ◌+◌, ◌*◌, ◌<◌, Bool, true}
use Rattle.wcp_single.proofs.Words.{false, cond, List, [], ◌∷◌, ◌++◌, length, map, take, set, count_by, All, refl, sym}
use Rattle.wcp_single.proofs.Words.{ap, ◌∙◌, subst, inl, inr, append-nil, append_assoc, arith, eq-eqb, get_or-set_same}
use Rattle.wcp_single.proofs.Words.{get_or-set_other, cases_eq, ne_eqb, take_all, take_at, length-append, length-map}
use Rattle.wcp_single.proofs.Words.{mul-add-lt, same_from_place, Action, Task, Call, setup, state_of_log, actions_of}
use Rattle.wcp_single.proofs.Words.{IsCallFor, FollowsActions, stamp_of, stamps_sent, stamps_got, sends, receives}
use Rattle.wcp_single.proofs.Words.{is_send_to, is_receive_from, HasPartner, IsWithin, IsFitOrder, IsFitOrder-take}
use Rattle.wcp_single.proofs.Words.{count_actions, actions_of-push, FollowsActions-push, length-stamps_sent}
use Rattle.wcp_single.proofs.Words.{length-stamps_got, stamps_sent-push, stamps_sent-push_other, stamps_got-push}
use Rattle.wcp_single.proofs.Words.{stamps_got-push_other, at_place, receive_is_no_send, Seal, IsChannel, IsNextTask}
use Rattle.wcp_single.proofs.Words.{MayDoNext, WorkloadProcess, CheckerState, queue_at}
use Rattle.std.proofs.lemmas.List.Elements.{All-push, All-drop, All-take}
use Rattle.wcp_model.specs.declared.workload.Action.TheVariants as action
use Rattle.wcp_model.proofs.Growth.{get_behind}
use Rattle.wcp_model.proofs.MessagesOfOrder.{receives_yes}
use Rattle.wcp_order.proofs.Counting.{count_by_push_passing, count_by_push_failing}

-- the logs with one more call of process a
abbrev pub with_call : (ℕ → List Call) → ℕ → Call → ℕ → List Call
with_call logs a call p = cond (p == a) (logs p ++ call ∷ []) (logs p)

-- the task that is next is within the processes
pub next_within : (n : ℕ) (done : List Task) (task : Task) → IsNextTask n done task → IsWithin n task
next_within n done task next =
    at_place (IsWithin n) (done ++ task ∷ []) (length done) task next.within (get_behind done task [])

pub sends_within : (n : ℕ) (done : List Task) (task : Task) (to : ℕ) → IsNextTask n done task
    → task.action ≡ action.Send to → to < n
sends_within n done task to next acts = (subst (HasPartner n task.p) acts (next_within n done task next).1).0

pub receives_within : (n : ℕ) (done : List Task) (task : Task) (from : ℕ) → IsNextTask n done task
    → task.action ≡ action.Recv from → from < n
receives_within n done task from next acts = (subst (HasPartner n task.p) acts (next_within n done task next).1).0

-- the processes that a task names
module _ {n : ℕ} {task : Task} {processes : List WorkloadProcess} {queues : List (List Seal)} {checker : CheckerState}
    (may : MayDoNext n task processes queues checker) where
  pub next_process : task.p < n
  next_process = (next_within n may.done task may.next).0

  pub process_inside : task.p < length processes
  process_inside = omega (arith, next_process, may.run.processes_are)

  pub next_partner : HasPartner n task.p task.action
  next_partner = (next_within n may.done task may.next).1

pub ruleset ends_within = (next_process, process_inside, next_partner)

-- and what was done before it is a fit order
pub done_fits : (n : ℕ) (done : List Task) (task : Task) → IsNextTask n done task
    → All (IsWithin n) done × IsFitOrder done done
done_fits n done task next =
    grind (
      arith,
      take_at done (task ∷ []) (length done) refl,
      All-take (IsWithin n) (length done) (done
          ++ task ∷ []) next.within,
      IsFitOrder-take (length done) (done ++ task ∷ []) next.fit,
    )

-- the message of a receive that is next is in transit
pub message_waits : (n : ℕ) (watched : NumberSet) (flag : Flag) (done : List Task) (a b : ℕ) (act : Action)
    (logs : ℕ → List Call) (seals : List Seal) → act ≡ action.Recv b
    → IsNextTask n done (record { p = a; action = act }) → FollowsActions (actions_of a done) (logs a)
    → FollowsActions (actions_of b done) (logs b) → IsChannel n watched flag done logs b a seals → 0 < length seals
message_waits n watched flag done a b act logs seals acts next receiver sender channel =
    let task : Task = record { p = a; action = act } in
    let longer : List Task = done ++ task ∷ [] in
    let got : length (stamps_got b (actions_of a done) (logs a)) ≡ count_by (receives b a) done =
    length-stamps_got (actions_of a done) (logs a) receiver b ∙ count_actions (is_receive_from b) a done in
    let sent : length (stamps_sent (setup n watched flag b) a (actions_of b done) (logs b)) ≡ count_by
    (sends b a) done = length-stamps_sent (actions_of b done) (logs b) sender (setup n watched flag b) a
    ∙ count_actions (is_send_to a) b done in
    let all : take (length longer) longer ≡ longer = take_all (length longer) longer (omega arith) in
    omega (
      arith,
      got,
      sent,
      ap length channel.in_order,
      length-append (stamps_got b (actions_of a done) (logs a)) (map (λ (seal : Seal). seal.clock) seals),
      length-map seals (λ (seal : Seal). seal.clock),
      next.fit.sent_first (length longer) b a,
      ap (count_by (receives b a)) all,
      ap (count_by (sends b a)) all,
      count_by_push_passing (receives b a) done task
          (ap (λ x. receives b a (record { p = a; action = x })) acts ∙ receives_yes b a),
      count_by_push_failing (sends b a) done task
          (ap (λ x. sends b a (record { p = a; action = x })) acts ∙ receive_is_no_send b a a b),
    )

-- logs of tasks after one more, which process a does
module _ (n : ℕ) (watched : NumberSet) (flag : Flag) (done : List Task) (a : ℕ) (act : Action) (within : a < n)
    (logs : ℕ → List Call) (follows : (p : ℕ) → p < n → FollowsActions (actions_of p done) (logs p)) (call : Call)
    (is : IsCallFor act call) where
  abbrev task : Task
  task = record { p = a; action = act }

  abbrev pub longer : List Task
  longer = done ++ task ∷ []

  abbrev pub after : ℕ → List Call
  after = with_call logs a call

  -- its log is one longer, and each other stays
  pub own_log : after a ≡ logs a ++ call ∷ []
  own_log = rw (eq-eqb a a refl) refl

  pub other_log : (p : ℕ) → p ≢ a → after p ≡ logs p
  other_log p other = rw (ne_eqb p a other) refl

  own_actions : actions_of a longer ≡ actions_of a done ++ act ∷ []
  own_actions = actions_of-push a done task
      ∙ ap (λ (b : Bool). actions_of a done ++ cond b (act ∷ []) []) (eq-eqb a a refl)

  other_actions : (p : ℕ) → p ≢ a → actions_of p longer ≡ actions_of p done
  other_actions p other = actions_of-push p done task ∙ ap (λ (b : Bool). actions_of p done ++ cond b (act ∷ []) [])
      (ne_eqb a p (λ same. other (sym same))) ∙ append-nil (actions_of p done)

  -- what holds of one call more at a, and of the others as they were, holds of all
  by_process : (P : ℕ → List Action → List Call → Type 0) → P a (actions_of a done ++ act ∷ []) (logs a ++ call ∷ [])
      → ((p : ℕ) → p < n → P p (actions_of p done) (logs p)) → (p : ℕ) → p < n → P p (actions_of p longer) (after p)
  by_process P own others p below = grind (arith, other_actions, own_actions)

  pub follows_next : (p : ℕ) → p < n → FollowsActions (actions_of p longer) (after p)
  follows_next = by_process (λ p. FollowsActions)
      (FollowsActions-push (actions_of a done) (logs a) act call (follows a within) is) follows

  own_test : (b : Bool) → ((a == a) && b) ≡ false → b ≡ false
  own_test b fails = ap (λ (c : Bool). c && b) (sym (eq-eqb a a refl)) ∙ fails

  -- what is sent and got stays but on the channel of the task
  sent_stays : (p q : ℕ) → p < n → sends p q task ≡ false → stamps_sent (setup n watched flag p) q (actions_of p longer)
      (after p) ≡ stamps_sent (setup n watched flag p) q (actions_of p done) (logs p)
  sent_stays p q = by_process (λ r actions log. sends r q task ≡ false → stamps_sent
      (setup n watched flag r) q actions log ≡ stamps_sent (setup n watched flag r) q (actions_of r done) (logs r))
      (λ fails. stamps_sent-push_other (actions_of a done) (logs a) act call (follows a within)
      (setup n watched flag a) q (own_test (is_send_to q act) fails)) (λ r below fails. refl) p

  got_stays : (p q : ℕ) → q < n → receives p q task ≡ false
      → stamps_got p (actions_of q longer) (after q) ≡ stamps_got p (actions_of q done) (logs q)
  got_stays p q = grind (arith, common_steps, stamps_got-push_other)

  -- a channel that the task leaves alone
  pub channel_stays : (p q : ℕ) (seals : List Seal) → p < n → q < n → sends p q task ≡ false → receives p q task ≡ false
      → IsChannel n watched flag done logs p q seals → IsChannel n watched flag longer after p q seals
  channel_stays p q seals p_below q_below no_send no_receive channel = grind (arith, got_stays, sent_stays)

  -- the channel on which it sends
  pub channel_pushed : (q : ℕ) (seals : List Seal) (seal : Seal) → q < n → is_send_to q act ≡ true
      → receives a q task ≡ false → (seal.watch ≡ 0) × (seal.to ≡ q)
      → seal.clock ≡ (state_of_log (setup n watched flag a) (logs a ++ call ∷ [])).clock
      → IsChannel n watched flag done logs a q seals → IsChannel n watched flag longer after a q (seals ++ seal ∷ [])
  channel_pushed q seals seal below send no_receive addressed carries channel =
      grind (arith, All-push, common_steps, got_stays, stamps_sent-push)

  -- the channel from which it receives
  pub channel_popped : (p : ℕ) (seal : Seal) (rest : List Seal) → p < n → sends p a task ≡ false
      → is_receive_from p act ≡ true → stamp_of call ≡ seal.clock → IsChannel n watched flag done logs p a (seal ∷ rest)
      → IsChannel n watched flag longer after p a rest
  channel_popped p seal rest below no_send receive carries channel = record {
    addressed = All-drop (λ (s : Seal). (s.watch ≡ 0) × (s.to ≡ a)) 1 (seal ∷ rest) channel.addressed;
    in_order = grind (arith, append_assoc, own_actions, sent_stays, stamps_got-push);
  }

  -- where the task counts on one channel alone, that channel is written and each other one stays
  pub channels_set : (queues : List (List Seal)) (from to channel : ℕ) (seals : List Seal) → length queues ≡ n * n
      → from < n → to < n → channel ≡ from * n + to
      → ((p q : ℕ) → (p ≡ from → q ≡ to → ⊥) → (sends p q task ≡ false) × (receives p q task ≡ false)) →
      ((p q : ℕ) → p < n → q < n → IsChannel n watched flag done logs p q (queue_at queues (p * n + q)))
      → IsChannel n watched flag longer after from to seals →
      (p q : ℕ) → p < n → q < n
      → IsChannel n watched flag longer after p q (queue_at (set queues channel seals) (p * n + q))
  channels_set queues from to channel seals all from_within to_within number elsewhere before here p q p_within
      q_within = elim (cases_eq (p * n + q) channel) [
        | inl same ↦
            grind (
              arith,
              get_or-set_same queues channel seals [] (omega (arith, mul-add-lt from n to n from_within to_within)),
              same_from_place p q from to n q_within to_within (same ∙ number),
            )
        | inr other ↦
            grind (arith, channel_stays, get_or-set_other)
      ]
