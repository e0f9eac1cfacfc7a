-- One more event stands in a column.
use Rattle.draw_layout.proofs.Words.{◌≡◌, ◌≢◌, ℕ, ◌+◌, ◌<◌, ◌≤◌, ◌⊎◌, ◌∙◌, max, Bool, true, false, List, length, set}
use Rattle.draw_layout.proofs.Words.{slice_get, slice_index, Some, refl, sym, ap, subst, inl, inr, ⊎_elim, arith}
use Rattle.draw_layout.proofs.Words.{cases_eq, cases_lt, cases_order, and_parts, and_from, false≢true, eqb-true, eq-eqb}
use Rattle.draw_layout.proofs.Words.{same_Some, length-set, get_or-set_same, get_or-set_other, slice_get_within, Action}
use Rattle.draw_layout.proofs.Words.{count_before-place, sends, sends_yes, Task, IsFitOrder, AreSendAndReceive}
use Rattle.draw_layout.proofs.Words.{AreSends}
use Rattle.draw_layout.proofs.Words.{IsDelivery, delivery_later, IsEventAt, is_event, IsOfHalf, StandInColumns}
use Rattle.draw_layout.proofs.Words.{MayStand}
use Rattle.draw_layout.proofs.Words.{IsLaid}
use Rattle.wcp_model.specs.declared.workload.Action.TheVariants as action
use Rattle.draw_layout.specs.Columns.{StandsNext}
use Rattle.draw_layout.specs.Columns.StandsNext.{Floor, Own, Send}
use Rattle.draw_layout.specs.Messages.{IsSendOf}
use Rattle.std.proofs.Math.Bool.{beq}

-- the event at a place is that of one process
pub event_of_task : {order : List Task} {p place : ℕ} (event : IsEventAt order p place) → event.task.p ≡ p
event_of_task {p = p} event = eqb-true _ p (and_parts _ _ event.own).0

pub same_process : {order : List Task} {p q place : ℕ} → IsEventAt order p place → IsEventAt order q place → p ≡ q
same_process one other =
    sym (event_of_task one) ∙ ap (λ (task : Task). task.p) (same_Some _ _ (sym one.at ∙ other.at)) ∙ event_of_task other

pub event_from : {order : List Task} {place : ℕ} {task : Task} → slice_get order place ≡ Some task
    → is_event task.action ≡ true → IsEventAt order task.p place
event_from {task = task} at is = record { task = task; at = at; own = and_from _ _ (eq-eqb task.p task.p refl) is }

module _ {order : List Task} where
  -- a message has its send and its receive, and a receive one send
  pub send_event : {sent received : ℕ} (message : AreSendAndReceive order sent received)
      → IsEventAt order message.from sent
  send_event message = event_from message.send refl

  pub receive_event : {sent received : ℕ} (message : AreSendAndReceive order sent received)
      → IsEventAt order message.to received
  receive_event message = event_from message.receive refl

  pub message_later : IsFitOrder order order → {sent received : ℕ} → AreSendAndReceive order sent received
      → sent < received
  message_later fit {sent} {received} message =
      let delivery : IsDelivery order message.from message.to sent received =
      record { send = message.send; receive = message.receive; same_rank = sym message.same_number } in
      delivery_later fit delivery

  pub same_send : {one other received : ℕ} → AreSendAndReceive order one received
      → AreSendAndReceive order other received → one ≡ other
  same_send {one} {other} first second =
      let same = same_Some _ _ (sym first.receive ∙ second.receive) in
      let to : first.to ≡ second.to = ap (λ (task : Task). task.p) same in
      let act = ap (λ (task : Task). task.action) same in
      let from : first.from ≡ second.from = cc act in
      count_before-place (sends first.from first.to) order one other _ _ first.send second.send
      (sends_yes first.from first.to) (rw (from, to) (sends_yes second.from second.to))
      (sym first.same_number ∙ rw (from, to) second.same_number)

  module _ {columns : List ℕ} (stand : StandInColumns order columns) {p i : ℕ} (c : ℕ) (event : IsEventAt order p i)
    where
      inside : i < length columns
      inside = omega (arith, slice_get_within order i event.task event.at, stand.tasks)

      pub column_here : slice_index (set columns i c) i ≡ c
      column_here = get_or-set_same columns i c 0 inside

      pub column_there : (k : ℕ) → k ≢ i → slice_index (set columns i c) k ≡ slice_index columns k
      column_there k other = get_or-set_other columns i k c 0 other

      same_owner : (q k : ℕ) → IsEventAt order q k → k ≡ i → q ≡ p
      same_owner q k at_k here = same_process (subst (IsEventAt order q) here at_k) event

      stand_more : slice_index columns i ≡ 0 → IsFitOrder order order
          → ((j : ℕ) → IsEventAt order p j → j < i → (0 < slice_index columns j) × (slice_index columns j < c))
          → ((sent : ℕ) → AreSendAndReceive order sent i → (0 < slice_index columns sent) × (slice_index columns
          sent < c)) → StandInColumns order (set columns i c)
      stand_more none fit own message = record {
        tasks = length-set columns i c ∙ stand.tasks;
        only = λ k positive. elim (cases_eq k i) [
          | inl here ↦ (p, subst (IsEventAt order p) (sym here) event)
          | inr other ↦ stand.only k (omega (arith, column_there k other, positive))
        ];
        own = λ q k j at_k at_j less positive.
            let new = λ (here : k ≡ i). own j (rw (same_owner q k at_k here) at at_j) (omega arith) in
            let old = stand.own q k j at_k at_j less in
            grind (arith, column_here, column_there k, column_there j, cases_eq k i, cases_eq j i);
        message = λ sent received is positive.
            let new = λ (here : received ≡ i). message sent (rw here at is) in
            let old = stand.message sent received is in
            let later = message_later fit is in
            grind (arith, column_here, column_there received, column_there sent, cases_eq received i, cases_eq sent i);
      }

-- where the columns of what stands stay, an event stands next to the same one
pub next_stays : {order : List Task} {columns after : List ℕ} {floor p i : ℕ} → StandInColumns order columns
    → ((k : ℕ) → 0 < slice_index columns k → slice_index after k ≡ slice_index columns k) → IsEventAt order p i
    → 0 < slice_index columns i
    → StandsNext order columns floor p i → StandsNext order after floor p i
next_stays {i = i} stand same event positive (Floor next) = Floor (same i positive ∙ next)
next_stays {p = p} {i = i} stand same event positive (Own j at_j less next) =
    Own j at_j less (omega (arith, same i positive, next, same j (stand.own p i j event at_j less positive).0))
next_stays {i = i} stand same event positive (Send sent message next) =
    Send sent message (omega (arith, same i positive, next, same sent (stand.message sent i message positive).0))

module _ {order : List Task} {halves : List Bool} {half : Bool} {floor : ℕ} {start : List ℕ} {place : ℕ}
    {columns last : List ℕ} (is : IsLaid order halves half floor start place columns last) where
  -- the task at a place stands in no column
  pub laid_past : ((p : ℕ) → IsEventAt order p place → IsOfHalf halves half place → ⊥)
      → IsLaid order halves half floor start (place + 1) columns last
  laid_past none = record {
    stand = is.stand;
    laid = λ p i event own below. is.laid p i event own (earlier p i event own below);
    next = λ p i event own below. is.next p i event own (earlier p i event own below);
    unlaid = λ i own le. is.unlaid i own (omega arith);
    kept = is.kept;
    processes = is.processes;
    greatest = is.greatest;
    reached = is.reached;
    few_columns = λ i. omega (arith, is.few_columns i);
  }
    where
      earlier : (p i : ℕ) → IsEventAt order p i → IsOfHalf halves half i → i < place + 1 → i < place
      earlier p i event own below = elim (cases_eq i place) [
        | inl here ↦ absurd (none p (rw here at event) (rw here at own))
        | inr other ↦ omega arith
      ]

  module _ (fit : IsFitOrder order order) (may : MayStand order halves half start) {sent : List ℕ}
      (are : AreSends order sent) {task : Task} (at : slice_get order place ≡ Some task)
      (is_one : is_event task.action ≡ true) (own : IsOfHalf halves half place) (within : task.p < 16) {c : ℕ}
      (floor_less : floor < c) (last_less : slice_index last task.p < c)
      (sent_less : slice_index columns (slice_index sent place) < c) where
    event : IsEventAt order task.p place
    event = event_from at is_one

    -- what went before stands in a column
    stands : (q j : ℕ) → IsEventAt order q j → j < place → IsOfHalf halves half j ⊎ (0 < slice_index start j)
        → 0 < slice_index columns j
    stands q j at_j less one = ⊎_elim (λ of_half. omega (arith, is.laid q j at_j of_half less))
        (λ stood. omega (arith, stood, is.kept j (λ of_half. omega (arith, may.none j of_half, stood)))) one

    none_here : slice_index columns place ≡ 0
    none_here = is.unlaid place own (omega arith)

    -- the event at a place stands next to one
    abbrev NextHere : Type 0
    NextHere = StandsNext order (set columns place c) floor task.p place

    here : slice_index (set columns place c) place ≡ c
    here = column_here is.stand c event

    there : (k : ℕ) → k ≢ place → slice_index (set columns place c) k ≡ slice_index columns k
    there k other = get_or-set_other columns place k c 0 other

    last_here : slice_index (set last task.p c) task.p ≡ c
    last_here = get_or-set_same last task.p c 0 (omega (arith, within, is.processes))

    last_there : (p : ℕ) → p ≢ task.p → slice_index (set last task.p c) p ≡ slice_index last p
    last_there p other = get_or-set_other last task.p p c 0 other

    next_floor : c ≡ floor + 1 → NextHere
    next_floor after = Floor (here ∙ after)

    next_none : (k : ℕ) → slice_index columns k ≡ 0 → c ≡ slice_index columns k + 1 → NextHere
    next_none k zero after = next_floor (omega (arith, after, zero, floor_less))

    earlier : (j : ℕ) → IsEventAt order task.p j → 0 < slice_index columns j → j < place
    earlier j at_j positive = elim (cases_order j place) [
      | inr (inl less) ↦ less
      | inl same ↦ let zero : slice_index columns j ≡ 0 = rw same none_here in absurd (omega (arith, zero, positive))
      | inr (inr more) ↦ absurd (omega (arith, none_here, (is.stand.own task.p j place at_j event more positive).0))
    ]

    next_own : (j : ℕ) → IsEventAt order task.p j → c ≡ slice_index columns j + 1 → NextHere
    next_own j at_j after = elim (cases_lt 0 (slice_index columns j)) [
      | inl positive ↦
          let less = earlier j at_j positive in
          Own j at_j less (omega (arith, here, after, there j, less))
      | inr zero ↦ next_none j (omega (arith, zero)) after
    ]

    next_send : (act : Action) (from : ℕ) → IsSendOf order place act from → c ≡ slice_index columns from + 1 → NextHere
    next_send (action.Observe holds) from same after = next_none from (rw same none_here) after
    next_send (action.Send to) from same after = next_none from (rw same none_here) after
    next_send (action.Recv source) from message after =
        Send from message (omega (arith, here, after, there from, message_later fit message))

    next_last : (slice_index last task.p ≡ 0) ⊎ ((i : ℕ) × IsEventAt order task.p
        i × (slice_index last task.p ≡ slice_index columns i)) → c ≡ slice_index last task.p + 1 → NextHere
    next_last (inl zero) after = next_floor (omega (arith, after, zero, floor_less))
    next_last (inr found) after = next_own found.0 found.1 (omega (arith, after, found.2))

    next_here : (c ≡ floor + 1) ⊎ ((c ≡ slice_index last task.p + 1) ⊎ (c ≡ slice_index columns
        (slice_index sent place) + 1)) → NextHere
    next_here (inl after) = next_floor after
    next_here (inr (inl after)) = next_last (is.reached task.p) after
    next_here (inr (inr after)) = next_send task.action (slice_index sent place) (are.each place task at) after

    -- the event at a place stands in a column
    pub laid_more : (c ≡ floor + 1) ⊎ ((c ≡ slice_index last task.p + 1) ⊎ (c ≡ slice_index columns
        (slice_index sent place) + 1)) → c ≤ floor + (place + 1)
        → IsLaid order halves half floor start (place + 1) (set columns place c) (set last task.p c)
    laid_more one few = record {
      stand = stand_more is.stand c event (is.unlaid place own (omega arith)) fit (λ j at_j less. (
        stands task.p j at_j less (may.own task.p place j event at_j less own),
        omega (arith, is.greatest task.p j at_j),
      ))
          (λ from message.
          let same = same_send message
          (are.each place (record { p = message.to; action = action.Recv message.from }) message.receive) in (
            stands message.from from (send_event message) (message_later fit message)
                (may.message from place message own),
            rw same sent_less,
          ));
      laid = λ p i at_i own_i below. grind (arith, is.laid p i at_i own_i, here, there i, floor_less, cases_eq i place);
      next = λ p i at_i own_i below. elim (cases_eq i place) [
        | inl here ↦
            let same = same_process (subst (IsEventAt order p) here at_i) event in
            rw (here, same) (next_here one)
        | inr other ↦
            next_stays is.stand (λ k positive. grind (arith, none_here, there k, cases_eq k place)) at_i
            (omega (arith, is.laid p i at_i own_i (omega arith))) (is.next p i at_i own_i (omega arith))
      ];
      unlaid = λ i own_i le. grind (arith, is.unlaid i own_i, there i);
      kept = λ i other. grind (arith, is.kept i other, own, other, there i, cases_eq i place);
      processes = length-set last task.p c ∙ is.processes;
      greatest = λ p i at_i.
          let old = is.greatest p i at_i in
          let own = same_owner is.stand c event p i at_i in
          grind (arith, here, there i, last_here, last_there p, cases_eq i place, cases_eq p task.p);
      few_columns = λ i. grind (arith, is.few_columns i, here, there i, few, cases_eq i place);
      reached = λ p. elim (cases_eq p task.p) [
        | inl same ↦ inr (place, rw same event, rw same (last_here ∙ sym here))
        | inr apart ↦ rw (last_there p apart) (⊎_elim inl (λ (i, at_i, same). inr (
          i,
          at_i,
          same ∙ sym (there i (λ at. apart (same_owner is.stand c event p i at_i at))),
        )) (is.reached p))
      ];
    }

-- the last columns are few
pub last_few : {order : List Task} {halves : List Bool} {half : Bool} {floor : ℕ} {start : List ℕ} {place : ℕ}
    {columns last : List ℕ} → IsLaid order halves half floor start place columns last → (p : ℕ)
    → slice_index last p ≤ floor + place
last_few is p = grind (arith, is.few_columns, is.reached p)

-- an observation is no event
pub no_event : {order : List Task} {p place : ℕ} {task : Task} → slice_get order place ≡ Some task
    → is_event task.action ≡ false → IsEventAt order p place → ⊥
no_event at is event =
    let one : is_event event.task.action ≡ true = (and_parts _ _ event.own).1 in
    false≢true (sym is ∙ ap (λ (t : Task). is_event t.action) (same_Some _ _ (sym at ∙ event.at)) ∙ one)

-- what `==` says of halves
pub beq_true : (a b : Bool) → beq a b ≡ true → a ≡ b
beq_true a b same = grind arith

pub beq_same : (a b : Bool) → a ≡ b → beq a b ≡ true
beq_same a b same = grind arith

-- 1 and the greatest of three numbers is 1 and one of them
pub greatest_is : (a b d greater greatest c : ℕ) → greater ≡ max a b → greatest ≡ max greater d → c ≡ 1 + greatest
    → (c ≡ a + 1) ⊎ ((c ≡ b + 1) ⊎ (c ≡ d + 1))
greatest_is a b d greater greatest c one other is = grind (arith, cases_lt greater d, cases_lt a b)
