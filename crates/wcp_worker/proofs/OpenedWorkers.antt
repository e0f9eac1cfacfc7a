-- The workers of a workload, once all their lanes are opened.
use Rattle.wcp_worker.proofs.Words.{NumberSet, Flag, setup, ◌≡◌, ℕ, ◌<◌, ◌≤◌, Option, Some, None, List, [], ◌++◌}
use Rattle.wcp_worker.proofs.Words.{length, map, filter, get_or, All, refl, sym, ap, ◌∙◌, subst, arith, common_steps}
use Rattle.wcp_worker.proofs.Words.{IfSome, slice_get, count_by, get_or_past, length-map, get_or_from_slice_get}
use Rattle.wcp_worker.proofs.Words.{slice_get-get_or, slice_get_within, Task, actions_of, is_task_of, is_send_to, Core}
use Rattle.wcp_worker.proofs.Words.{LiveSide, LiveFor, fresh_stands, mapped_at, Outbox, Inbox, Player, Worker}
use Rattle.wcp_worker.proofs.Words.{IsOutboxOf, IsInboxOf, IfBoth, IsSameOutbox, IsSameInbox, IsLaneFor, messages_put}
use Rattle.wcp_worker.proofs.Words.{messages_taken, clocks_from, outbox_to, inbox_from, clocks_sent_to, IsFreshPlayer}
use Rattle.wcp_worker.proofs.Words.{IsIdle, HasTasks, HaveLanes, AreFreshProbes, AreWorkersOf}
use Rattle.std.proofs.lemmas.List.Sums.{length-filter, count_by-le-length}
use Rattle.wcp_worker.proofs.OpenedRows.{lane_along}

-- an end that is new
abbrev pub IsNewOutbox : ℕ → Outbox → Type 0
IsNewOutbox p outbox = IsOutboxOf p outbox × (outbox.putter.put ≡ [])

abbrev pub IsNewInbox : ℕ → Inbox → Type 0
IsNewInbox q inbox = IsInboxOf q inbox × (inbox.taker.taken ≡ [])

new_outbox : (p count : ℕ) (o : Option Outbox) (i : Option Inbox) → IsLaneFor p count o i → IfSome o (IsNewOutbox p)
new_outbox p count (Some o) (Some i) lane = (lane.1.puts, lane.1.none_put)
new_outbox p count (Some o) None lane = absurd lane.1
new_outbox p count None i lane = tt

new_inbox : (p count : ℕ) (o : Option Outbox) (i : Option Inbox) → IsLaneFor p count o i → IfSome i (IsNewInbox p)
new_inbox p count (Some o) (Some i) lane = (lane.1.takes, lane.1.none_taken)
new_inbox p count None (Some i) lane = absurd lane.1
new_inbox p count o None lane = tt

-- a player with a fresh probe and new lanes has done nothing
module _
    (p : ℕ) (player : Player) (id : player.probe.core.id ≡ p) (stands : LiveFor player.probe [])
    (outboxes : (q : ℕ) → IfSome (outbox_to player.mailbox q) (IsNewOutbox p))
    (inboxes : (q : ℕ) → IfSome (inbox_from player.mailbox q) (IsNewInbox q)) where
  outbox_fresh : (o : Option Outbox) → IfSome o (IsNewOutbox p)
      → IfSome o (IsOutboxOf p) × IfBoth IsSameOutbox o o × (clocks_from p (messages_put o) ≡ [])
  outbox_fresh (Some o) new = (new.0, (refl, refl), ap (clocks_from p) new.1)
  outbox_fresh None new = (tt, tt, refl)

  inbox_fresh : (q : ℕ) (i : Option Inbox) → IfSome i (IsNewInbox q)
      → IfSome i (IsInboxOf q) × IfBoth IsSameInbox i i × (clocks_from q (messages_taken i) ≡ [])
  inbox_fresh q (Some i) new = (new.0, (refl, refl), ap (clocks_from q) new.1)
  inbox_fresh q None new = (tt, tt, refl)

  pub fresh_player : IsFreshPlayer player
  fresh_player =
      record {
        follows = tt;
        stands = stands;
        probe = (record { watch = refl; limit = refl; made = refl }, refl);
        lanes = record {
          outboxes = λ q. (outbox_fresh (outbox_to player.mailbox q) (outboxes q)).1;
          inboxes = λ q. (inbox_fresh q (inbox_from player.mailbox q) (inboxes q)).1;
        };
        own = record {
          outboxes = λ q. subst (λ r. IfSome (outbox_to player.mailbox q) (IsOutboxOf r)) (sym id)
              (outbox_fresh (outbox_to player.mailbox q) (outboxes q)).0;
          inboxes = λ q. (inbox_fresh q (inbox_from player.mailbox q) (inboxes q)).0;
        };
        sent = λ q. ap (λ r. clocks_sent_to r player.mailbox q) id
            ∙ (outbox_fresh (outbox_to player.mailbox q) (outboxes q)).2;
        taken = λ q. (inbox_fresh q (inbox_from player.mailbox q) (inboxes q)).2;
      }

few_of : (p : ℕ) (tasks : List Task) → length (actions_of p tasks) ≤ length tasks
few_of p tasks =
    let all = length-map (filter (is_task_of p) tasks) (λ (t : Task). t.action) ∙ length-filter (is_task_of p) tasks in
    omega (arith, all, count_by-le-length (is_task_of p) tasks)

-- what the workers do once the tasks are given to idle ones
pub actions_given : (tasks : List Task) (idle given : List Worker) (p : ℕ) (d : Worker) → All IsIdle idle
    → p < length idle
    → HasTasks p tasks (get_or idle p d) (get_or given p d) → (get_or given p d).actions.items ≡ actions_of p tasks
actions_given tasks idle given p d none below has = has.actions
    ∙ ap (λ a. a ++ actions_of p tasks) (none p d below).actions

pub few_given : (tasks : List Task) (idle given : List Worker) (p : ℕ) (d : Worker) → All IsIdle idle → p < length idle
    → HasTasks p tasks (get_or idle p d) (get_or given p d) → length (get_or given p d).actions.items ≤ length tasks
few_given tasks idle given p d none below has =
    let is = ap length (actions_given tasks idle given p d none below has) in
    omega (arith, is, few_of p tasks)

module _
    (n : ℕ) (watched : NumberSet) (flag : Flag) (tasks : List Task) (probes : List LiveSide)
    (idle given opened : List Worker)
    (fresh : AreFreshProbes n watched flag probes) (made : map (λ (w : Worker). w.player.probe) idle ≡ probes)
    (none : All IsIdle idle)
    (count : length given ≡ length idle)
    (tasked : (p : ℕ) (d : Worker) → p < length idle → HasTasks p tasks (get_or idle p d) (get_or given p d))
    (have : HaveLanes (length given) given opened) where
  -- the end by which worker p sends to q, and that by which the messages of q come to p
  outbox_at : (p q : ℕ) (d : Worker) → p < length given
      → IfSome (outbox_to (get_or opened p d).player.mailbox q) (IsNewOutbox p)
  outbox_at p q d below =
      grind (
        arith,
        common_steps,
        (λ (within : q < length given). new_outbox p _ _ _ (have.lanes p q d below within)),
        have.rows p d below,
        get_or_past (get_or opened p d).player.mailbox.outboxes.items q None,
      )

  inbox_at : (p q : ℕ) (d : Worker) → p < length given
      → IfSome (inbox_from (get_or opened p d).player.mailbox q) (IsNewInbox q)
  inbox_at p q d below =
      grind (
        arith,
        common_steps,
        (λ (within : q < length given). new_inbox q _ _ _ (have.lanes q p d within below)),
        have.columns p d below,
        get_or_past (get_or opened p d).player.mailbox.inboxes.items q None,
      )

  pub workers_opened : AreWorkersOf tasks probes opened
  workers_opened =
      record {
        count = have.count ∙ count ∙ sym (length-map idle (λ w. w.player.probe)) ∙ ap length made;
        each = λ p worker at.
            let within : p < length given = omega (arith, slice_get_within opened p worker at, have.count) in
            let below : p < length idle = omega (arith, within, count) in
            let is : get_or opened p worker ≡ worker = get_or_from_slice_get opened p worker worker at in
            let probe = ap (λ (w : Worker). w.player.probe) (sym is) ∙ have.probe p worker within
            ∙ ap (λ (player : Player). player.probe) (tasked p worker below).player in
            let there : slice_get probes p ≡ Some worker.player.probe =
            ap (λ ps. slice_get ps p) (sym made) ∙ mapped_at (λ (w : Worker). w.player.probe) idle p _
            (slice_get-get_or idle p worker below) ∙ ap (λ s. Some s) (sym probe) in
            let new = fresh.each p worker.player.probe there in
            record {
              probe = there;
              actions = ap (λ (w : Worker). w.actions.items) (sym is) ∙ ap (λ a. a.items) (have.actions p worker within)
                  ∙ actions_given tasks idle given p worker none below (tasked p worker below);
              fresh = fresh_player p worker.player (ap (λ (core : Core). core.id) new.0)
                  (fresh_stands worker.player.probe.core.watch (setup n watched flag p) worker.player.probe new.0 new.1)
                  (λ q. subst (λ (w : Worker). IfSome (outbox_to w.player.mailbox q) (IsNewOutbox p)) is
                  (outbox_at p q worker within))
                  (λ q. subst (λ (w : Worker). IfSome (inbox_from w.player.mailbox q) (IsNewInbox q)) is
                  (inbox_at p q worker within));
            };
        lanes = λ p q from to at other.
            let sends : get_or opened p from ≡ from = get_or_from_slice_get opened p from from at in
            let gets : get_or opened q from ≡ to = get_or_from_slice_get opened q to from other in
            lane_along p
            (ap (λ (w : Worker). count_by (is_send_to q) w.actions.items) sends)
            (ap (λ (w : Worker). outbox_to w.player.mailbox q) sends)
            (ap (λ (w : Worker). inbox_from w.player.mailbox p) gets)
            (have.lanes p q from
            (omega (arith, slice_get_within opened p from at, have.count))
            (omega (arith, slice_get_within opened q to other, have.count)));
      }
