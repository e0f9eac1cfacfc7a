use Rattle.wcp_model.proofs.Words.{◌≡◌, ℕ, zero, suc, ◌+◌, ◌<◌, ◌==◌, Bool, true, List, [], ◌∷◌, take, filter, count_by}
use Rattle.wcp_model.proofs.Words.{slice_get, Some, refl, sym, ap, ◌∙◌, inl, inr, arith, cases_Bool, and_from, eq-eqb}
use Rattle.wcp_model.proofs.Words.{length-take, take-take, slice_get_within, same_Some, Task, message_at, sends}
use Rattle.wcp_model.proofs.Words.{receives, message_number, place_after, computation_of, IsFitOrder}
use Rattle.wcp_model.specs.declared.step.Step.TheVariants as step
use Rattle.wcp_model.specs.declared.workload.Action.TheVariants as action
use Rattle.wcp_model.proofs.Places.{count_before-mono, count_before-place, count_before-yes}
use Rattle.wcp_model.proofs.SamePlace.{count_by_yes, count_by_no, slice_get-take, element_after}
use Rattle.wcp_model.proofs.StepsOfOrder.{sends_any, step_at, send_task, receive_task, message_at_is}

-- among the elements that pass a test, the place of one that passes a stricter test is the number of them before it
place_after_is : (any test : Task → Bool) → ((task : Task) → test task ≡ true → any task ≡ true) → (order : List Task)
    (place earlier : ℕ) (task : Task) → slice_get order place ≡ Some task → test task ≡ true → count_by test
    (take place order) ≡ earlier → place_after test earlier (filter any order) ≡ count_by any (take place order)
place_after_is any test implies [] place earlier task found passes behind = cc
place_after_is any test implies (first ∷ rest) zero earlier task found passes behind = grind arith
place_after_is any test implies (first ∷ rest) (suc place) earlier task found passes behind =
    elim (cases_Bool (test first)) [
      | inl here ↦ grind (
        arith,
        count_by_yes,
        implies first here,
        λ (k : ℕ). place_after_is any test implies rest place k task found passes,
      )
      | inr other ↦
          grind (
            arith,
            count_by_yes,
            place_after_is any test implies rest place earlier task found passes (sym
                (count_by_no test first (take place rest) other) ∙ behind),
          )
    ]

-- a task that passes the test for a send by p to q is that send, and the other way round
pub sends_is : (p q : ℕ) (task : Task) → sends p q task ≡ true → task ≡ record { p = p; action = action.Send q }
sends_is p q task passes = grind arith

pub sends_yes : (p q : ℕ) → sends p q (record { p = p; action = action.Send q }) ≡ true
sends_yes p q = and_from (p == p) (q == q) (eq-eqb p p refl) (eq-eqb q q refl)

-- the receive by q from p passes the test for it
pub receives_yes : (p q : ℕ) → receives p q (record { p = q; action = action.Recv p }) ≡ true
receives_yes p q = and_from (q == q) (p == p) (eq-eqb q q refl) (eq-eqb p p refl)

-- the number of the message that p sends to q after `earlier` others is the number of sends before it
pub message_number_is : (order : List Task) (p q earlier sent : ℕ) → slice_get order sent ≡ Some
    (record { p = p; action = action.Send q }) → count_by (sends p q) (take sent order) ≡ earlier
    → message_number order p q earlier ≡ count_by sends_any (take sent order)
message_number_is order p q earlier sent found behind =
    place_after_is sends_any (sends p q) (λ task passes. ap sends_any (sends_is p q task passes)) order sent earlier
    (record { p = p; action = action.Send q }) found (sends_yes p q) behind

-- the receive by q from p at a place belongs to the send by p to q at another: as many such sends stand before the send
-- as such receives before the receive
pub record IsDelivery (order : List Task) (p q sent received : ℕ) : Type 0 where
  pub send : slice_get order sent ≡ Some (record { p = p; action = action.Send q })
  pub receive : slice_get order received ≡ Some (record { p = q; action = action.Recv p })
  pub same_rank : count_by (sends p q) (take sent order) ≡ count_by (receives p q) (take received order)

-- in a fit order each receive belongs to an earlier send
pub send_of_receive : {tasks order : List Task} → IsFitOrder tasks order → (p q received : ℕ)
    → slice_get order received ≡ Some (record { p = q; action = action.Recv p })
    → (sent : ℕ) × (sent < received) × IsDelivery order p q sent received
send_of_receive {tasks} {order} fit p q received found =
    let rank = count_by (receives p q) (take received order) in
    let front = take (received + 1) order in
    let more : rank < count_by (sends p q) front = omega (
      arith,
      fit.sent_first (received + 1) p q,
      count_before-yes (receives p q) order received _ found (receives_yes p q),
    ) in
    let sender = element_after (sends p q) front rank more in
    let sent : ℕ = sender.1.place in
    let within : sent < received + 1 =
    omega (arith, slice_get_within front sent sender.0 sender.1.found, length-take (received + 1) order) in
    let there : slice_get order sent ≡ Some (record { p = p; action = action.Send q }) = sym (slice_get-take
    (received + 1) order sent within) ∙ sender.1.found ∙ ap Some (sends_is p q sender.0 sender.1.passes) in
    let before : sent < received = grind (arith, there, found) in (
      sent,
      before,
      grind (arith, take-take),
    )

-- in a fit order the send of a delivery stands before its receive
pub delivery_later : {tasks order : List Task} → IsFitOrder tasks order → {p q sent received : ℕ}
    → IsDelivery order p q sent received → sent < received
delivery_later {tasks} {order} fit {p} {q} {sent} {received} d = grind (arith, count_before-place, send_of_receive)

-- the receive of a delivery takes the message that its send made
pub delivery_step : (n : ℕ) {order : List Task} {p q sent received : ℕ} → IsDelivery order p q sent received
    → slice_get (computation_of n order) received ≡ Some (step.Recv q (message_at (computation_of n order) sent))
delivery_step n {order} {p} {q} {sent} {received} d =
    step_at n order received _ d.receive
    ∙ ap (λ message. Some (step.Recv q message))
    (message_number_is order p q _ sent d.send d.same_rank ∙ sym (message_at_is n order sent))

-- in a fit order a receive of the message that a send made is the receive of its delivery
pub delivery_of : (n : ℕ) {tasks order : List Task} → IsFitOrder tasks order → (p to q sent received : ℕ)
    → slice_get (computation_of n order) sent ≡ Some (step.Send p to) → slice_get (computation_of n order) received
    ≡ Some (step.Recv q (message_at (computation_of n order) sent)) → IsDelivery order p q sent received
delivery_of n {tasks} {order} fit p to q sent received put taken =
    let receive = receive_task n order received q (message_at (computation_of n order) sent) taken in
    let earlier = send_of_receive fit receive.0 q received receive.1 in
    let number = sym (message_number_is order receive.0 q _ earlier.0 earlier.2.send earlier.2.same_rank) ∙ receive.2
    ∙ message_at_is n order sent in
    let there = send_task n order sent p to put in
    let same : earlier.0 ≡ sent =
    count_before-place sends_any order earlier.0 sent _ _ earlier.2.send there refl refl number in
    let process : receive.0 ≡ p =
    ap (λ (task : Task). task.p) (same_Some _ _ (sym earlier.2.send ∙ ap (slice_get order) same ∙ there)) in
    rw (same, process) at earlier.2

-- in a fit order the message of a delivery is sent before it is received
pub message_sent_before : (n : ℕ) {tasks order : List Task} → IsFitOrder tasks order → {p q sent received : ℕ}
    → IsDelivery order p q sent received
    → message_at (computation_of n order) sent < message_at (computation_of n order) received
message_sent_before n {tasks} {order} fit {p} {q} {sent} {received} d =
    omega (
      arith,
      count_before-yes sends_any order sent _ d.send refl,
      count_before-mono sends_any order (sent
          + 1) received (omega (arith, delivery_later fit d)),
      message_at_is n order sent,
      message_at_is n order received,
    )
