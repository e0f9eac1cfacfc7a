-- The channels after one more task.
use Rattle.draw_layout.proofs.Words.{◌≡◌, ℕ, ◌+◌, ◌*◌, ◌<◌, false, List, [], ◌∷◌, ◌++◌, length, set, slice_get}
use Rattle.draw_layout.proofs.Words.{slice_index, Some, ap, ◌∙◌, inl, inr, arith, get_or, get_or_default}
use Rattle.draw_layout.proofs.Words.{get_or-set_same, get_or-set_other, cases_eq, cases_lt, length-set}
use Rattle.draw_layout.proofs.Words.{length-replicate}
use Rattle.draw_layout.proofs.Words.{get_or-replicate, length_push, mul-add-lt, same_from_place, replicate, sym}
use Rattle.draw_layout.proofs.Words.{sends_yes, receives_yes, count_before-yes, count_before-no, sends, receives}
use Rattle.draw_layout.proofs.Words.{Action}
use Rattle.draw_layout.proofs.Words.{Task, at_place, sends_ends, receives_ends, send_is_no_receive, receive_is_no_send}
use Rattle.draw_layout.proofs.Words.{AreSendAndReceive, AreInTransit, IsQueue, IsNext, IsSendOf, IsWithin, queue_at}
use Rattle.draw_layout.proofs.Words.{add-one, suc, sent_before, AreSends, element_within, slice_get_within}
use Rattle.std.proofs.lemmas.Grind.{common_steps}
use Rattle.wcp_model.specs.declared.workload.Action.TheVariants as action

-- nothing is in transit before the first task
pub none_in_transit : (n : ℕ) (order : List Task) → AreInTransit n order 0 (replicate (n * n) [])
none_in_transit n order = grind (arith, common_steps, length-replicate, get_or-replicate, mul-add-lt)

module _ (order : List Task) (place : ℕ) (task : Task) (at : slice_get order place ≡ Some task) (p q : ℕ)
    (queue : List ℕ) (is : IsQueue order place p q queue) where
  -- a task that neither sends nor receives there leaves the channel as it is
  queue_stays : sends p q task ≡ false → receives p q task ≡ false → IsQueue order (place + 1) p q queue
  queue_stays no_send no_receive =
      let sent = count_before-no (sends p q) order place task at no_send in
      let received = count_before-no (receives p q) order place task at no_receive in
      record {
        counted = omega (arith, sent, received, is.counted);
        send = is.send;
        number = λ k below. omega (arith, received, is.number k below);
      }

  -- a send joins the channel
  queue_longer : task ≡ record { p = p; action = action.Send q } → IsQueue order (place + 1) p q (queue ++ place ∷ [])
  queue_longer is_send =
      let sent = count_before-yes (sends p q) order place task at (rw is_send (sends_yes p q)) in
      let received = count_before-no (receives p q) order place task at (rw is_send (send_is_no_receive p q p q)) in
      let longer = length_push queue place in
      record {
        counted = omega (arith, sent, received, longer, is.counted);
        send = λ k below. grind (arith, common_steps, is.send k, at, is_send, longer, cases_lt k (length queue));
        number = λ k below.
            grind (arith, common_steps, is.number k, is.counted, received, longer, cases_lt k (length queue));
      }

  -- a receive takes the first message
  queue_shorter : (sent : ℕ) (rest : List ℕ) → task ≡ record { p = q; action = action.Recv p } → queue ≡ sent ∷ rest
      → IsQueue order (place + 1) p q rest × AreSendAndReceive order sent place
  queue_shorter sent rest is_receive first =
      let no_send = count_before-no (sends p q) order place task at (rw is_receive (receive_is_no_send p q q p)) in
      let received = count_before-yes (receives p q) order place task at (rw is_receive (receives_yes p q)) in
      let whole : IsQueue order place p q (sent ∷ rest) = rw first at is in (
        record {
          counted = omega (arith, no_send, received, whole.counted);
          send = λ k below. whole.send (suc k) (omega (arith, below));
          number = λ k below. omega (arith, received, whole.number (suc k) (omega (arith, below)));
        },
        record {
          from = p;
          to = q;
          send = whole.send 0 (omega arith);
          receive = at ∙ ap Some is_receive;
          same_number = omega (arith, whole.number 0 (omega arith));
        },
      )

module _ {n : ℕ} {order : List Task} {place : ℕ} {task : Task} (next : IsNext n order place task)
    {queues : List (List ℕ)} (are : AreInTransit n order place queues) where
  -- the partners of the task are within
  pub task_within : IsWithin n task
  task_within = at_place (IsWithin n) order place task next.within next.at

  pub stay : ((p q : ℕ) → (sends p q task ≡ false) × (receives p q task ≡ false))
      → AreInTransit n order (place + 1) queues
  stay none = record {
    channels = are.channels;
    each = λ p q p_below q_below. queue_stays order place task next.at p q (queue_at queues (p * n + q))
        (are.each p q p_below q_below) (none p q).0 (none p q).1;
  }

  -- where a task passes on one channel alone, that is written and each other one stays
  written : (a b : ℕ) (queue : List ℕ) → a < n → b < n → ((p q : ℕ) → ((p ≡ a) → (q ≡ b) → ⊥)
      → (sends p q task ≡ false) × (receives p q task ≡ false))
      → IsQueue order (place + 1) a b queue → AreInTransit n order (place + 1) (set queues (a * n + b) queue)
  written a b queue a_below b_below elsewhere is = record {
    channels = length-set queues (a * n + b) queue ∙ are.channels;
    each = λ p q p_below q_below. elim (cases_eq (p * n + q) (a * n + b)) [
      | inl same ↦
          let both = same_from_place p q a b n q_below b_below same in
          let placed = get_or-set_same queues (a * n + b) queue []
          (omega (arith, mul-add-lt a n b n a_below b_below, are.channels)) in
          rw (both.0, both.1, placed) is
      | inr other ↦
          let none = elsewhere p q (λ one two. other (ap (λ k. k * n + q) one ∙ ap (λ k. a * n + k) two)) in
          rw (get_or-set_other queues (a * n + b) (p * n + q) queue [] other)
          (queue_stays order place task next.at p q (queue_at queues (p * n + q)) (are.each p q p_below q_below)
          none.0 none.1)
    ];
  }

  -- a partner's number is within
  pub to_within : {to : ℕ} → task.action ≡ action.Send to → to < n
  to_within is = (rw is at task_within.1).0

  pub from_within : {from : ℕ} → task.action ≡ action.Recv from → from < n
  from_within is = (rw is at task_within.1).0

  module _ {channel : ℕ} (old : List ℕ) where
    queue_read : (a b : ℕ) → a < n → b < n → channel ≡ a * n + b
        → get_or queues channel old ≡ queue_at queues (a * n + b)
    queue_read a b a_below b_below number = rw number (get_or_default queues (a * n + b) old []
        (omega (arith, mul-add-lt a n b n a_below b_below, are.channels)))

    pub after_send : {new : List ℕ} (to : ℕ) → task.action ≡ action.Send to → channel ≡ task.p * n + to
        → new ≡ get_or queues channel old ++ place ∷ []
        → AreInTransit n order (place + 1) (set queues channel new)
    after_send to is number pushed =
        let is_send : task ≡ record { p = task.p; action = action.Send to } =
        λ i. record { p = task.p; action = is i } in
        let read = queue_read task.p to task_within.0 (to_within is) number in
        rw (number, pushed, read) (written task.p to _ task_within.0 (to_within is) elsewhere
        (queue_longer order place task next.at task.p to _ (are.each task.p to task_within.0 (to_within is)) is_send))
      where
        elsewhere : (p q : ℕ) → ((p ≡ task.p) → (q ≡ to) → ⊥) → (sends p q task ≡ false) × (receives p q task ≡ false)
        elsewhere p q other = grind (arith, sends_ends, send_is_no_receive, is)

    pub after_receive : {new : List ℕ} (from sent : ℕ) → task.action ≡ action.Recv from → channel ≡ from * n + task.p
        → get_or queues channel old ≡ sent ∷ new
        → AreInTransit n order (place + 1) (set queues channel new) × IsSendOf order place task.action sent
    after_receive {new} from sent is number popped =
        let is_receive : task ≡ record { p = task.p; action = action.Recv from } =
        λ i. record { p = task.p; action = is i } in
        let read = queue_read from task.p (from_within is) task_within.0 number in
        let shorter = queue_shorter order place task next.at from task.p _
        (are.each from task.p (from_within is) task_within.0) sent new is_receive (sym read ∙ popped) in
        (rw number (written from task.p new (from_within is) task_within.0 elsewhere shorter.0), rw is shorter.1)
      where
        elsewhere : (p q : ℕ) → ((p ≡ from) → (q ≡ task.p) → ⊥) → (sends p q task ≡ false) × (receives p q task ≡ false)
        elsewhere p q other = grind (arith, receives_ends, receive_is_no_send, is)

    -- what is received is in transit
    pub some_waits : (from : ℕ) → task.action ≡ action.Recv from → channel ≡ from * n + task.p
        → 0 < length (get_or queues channel old)
    some_waits from is number =
        let at : slice_get order place ≡ Some (record { p = task.p; action = action.Recv from }) = next.at
        ∙ ap (λ act. Some (record { p = task.p; action = act })) is in
        let more = count_before-yes (receives from task.p) order place _ at (receives_yes from task.p) in
        let before = rw (← add-one place) at (sent_before order next.fit place from task.p) in
        rw (queue_read from task.p (from_within is) task_within.0 number)
        (omega (arith, more, before, (are.each from task.p (from_within is) task_within.0).counted))

  pub channel_within : {a b channel : ℕ} → a < n → b < n → channel ≡ a * n + b → channel < length queues
  channel_within {a} {b} a_below b_below number = omega (arith, mul-add-lt a n b n a_below b_below, are.channels)

-- the sends of all tasks
module _ (order : List Task) where
  send_inside : (place sent : ℕ) (act : Action) → place < length order → IsSendOf order place act sent
      → sent < length order
  send_inside place sent (action.Observe holds) below is = omega (arith, is)
  send_inside place sent (action.Send to) below is = omega (arith, is)
  send_inside place sent (action.Recv from) below is = slice_get_within order sent _ is.send

  pub AreSends-all : (sent : List ℕ) → length sent ≡ length order
      → ((k : ℕ) (task : Task) → k < length order → slice_get order k ≡ Some task
      → IsSendOf order k task.action (slice_index sent k)) → AreSends order sent
  AreSends-all sent all each = record {
    tasks = all;
    inside = λ place below. let (task, at) = element_within order place below in
        send_inside place (slice_index sent place) task.action below (each place task below at);
    each = λ place task at. each place task (slice_get_within order place task at) at;
  }
