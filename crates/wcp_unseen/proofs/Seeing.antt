-- What is seen of a computation, and what happened before by it.
use Rattle.std.proofs.Common.{◌≡◌, ◌∙◌, ℕ, ◌+◌, ◌<◌, ◌≤◌, true, false, length, map, refl, sym, ap}
use Rattle.std.proofs.Common.{subst, arith, Option, Some, None, is_some, unwrap_or, slice_get, slice_index_or, ⊎_elim}
use Rattle.std.proofs.Common.{eq-eqb, true≢false}
use Rattle.std.proofs.lemmas.Bool.{cases_Bool, cases_lt}
use Rattle.std.proofs.lemmas.List.FromFn.{length-map-range_with_len, get_or-map-range_with_len}
use Rattle.std.proofs.lemmas.Option.{slice_get_within}
use Rattle.std.specs.FinSet as set
use Rattle.std.specs.List.{range_with_len}
use Rattle.wcp_clock.specs.ProcessNumbers.{NumberSet}
use Rattle.wcp_model.specs.Computation.{Computation, interval_at, is_communication_of, message_at}
use Rattle.wcp_model.specs.Cut.{Intervals, IsSatisfyingCut, interval_of, member}
use Rattle.wcp_model.specs.Order.{DirectlyPrecedes, HappenedBefore, IsMessage}
use Rattle.wcp_model.specs.Order.DirectlyPrecedes.{Message, Next}
use Rattle.wcp_model.specs.Order.HappenedBefore.{Chain, Direct}
use Rattle.wcp_model.specs.Watched.{IsWatched}
use Rattle.wcp_model.specs.declared.state.State.{State}
use Rattle.wcp_model.specs.declared.step.Step.{Step}
use Rattle.wcp_model.specs.declared.step.Step.TheVariants as step
use Rattle.wcp_model.proofs.Choosing.{choice_from_each}
use Rattle.wcp_model.proofs.CutLaws.{happened_before_later}
use Rattle.wcp_model.proofs.EventPlaces.{event_of, event_of_send}
use Rattle.wcp_model.proofs.Places.{count_before-mono}
use Rattle.wcp_model.proofs.Predecessors.{Span, before_later, before_trans, earlier_before, span}
use Rattle.wcp_model.proofs.Reached.{interval_at-event, interval_at-le}
use Rattle.wcp_unseen.specs.Unseen.{IsObservedIn, IsSeenOf, renumbered, state_at}

-- A renumbered step is a communication event of the same process.
own_renumbered : (number : ℕ → ℕ) (p : ℕ) (one : Step)
    → is_communication_of p (renumbered number one) ≡ is_communication_of p one
own_renumbered number p (step.Observe q holds) = refl
own_renumbered number p (step.Send from to) = refl
own_renumbered number p (step.Recv to message) = refl
own_renumbered number p (step.Close q) = refl
own_renumbered number p (step.Dropped q) = refl
own_renumbered number p (step.Put q) = refl
own_renumbered number p (step.Admit relay q) = refl
own_renumbered number p (step.Pull relay) = refl
own_renumbered number p (step.Pass relay) = refl
own_renumbered number p step.Check = refl

interval_rises : (c : Computation) (p early late : ℕ) → early ≤ late → interval_at c p early ≤ interval_at c p late
interval_rises c p early late order = count_before-mono (is_communication_of p) c early late order

-- An event at a place comes before each later interval.
at_or_before : (c : Computation) (p place other : ℕ) (one : Step) → slice_get c place ≡ Some one
    → is_communication_of p one ≡ true → interval_at c p other ≤ interval_at c p place → other ≤ place
at_or_before c p place other one here own order =
    ⊎_elim
    (λ (later : place < other). absurd (omega (
      arith,
      order,
      interval_at-event c p place one here own,
      interval_rises c p (place + 1) other (omega (arith, later)),
    )))
    (λ (fits : other ≤ place). fits)
    (cases_lt place other)

module _ (seen c : Computation) (is : IsSeenOf seen c) where
  place_rises : (i j : ℕ) → i ≤ j → j < length seen → is.place i ≤ is.place j
  place_rises i j order within =
      ⊎_elim
      (λ (before : i < j). let below = is.in_order i j before within in omega (arith, below))
      (λ (past : j ≤ i).
      let same : i ≡ j = omega (arith, order, past) in
      let places = ap is.place same in
      omega (arith, places))
      (cases_lt i j)

  -- An event that is seen stands before each later place.
  past_event : (p i j : ℕ) (one : Step) → slice_get seen i ≡ Some one → is_communication_of p one ≡ true → i < j
      → j < length seen → interval_at c p (is.place i) + 1 ≤ interval_at c p (is.place j)
  past_event p i j one here own before within =
      let below = is.in_order i j before within in
      let more = interval_at-event c p (is.place i) (renumbered is.number one) (is.steps i one here)
      (own_renumbered is.number p one ∙ own) in
      omega (arith, more, interval_rises c p (is.place i + 1) (is.place j) (omega (arith, below)))

  -- A state that was left by an event that is seen happened before the states of its process behind that.
  next : (p i j k : ℕ) → i < length seen → j < length seen → interval_at seen p i ≡ k → interval_at seen p j ≡ k + 1
      → HappenedBefore c (state_at c p (is.place i)) (state_at c p (is.place j))
  next p i j k i_within j_within at_i at_j =
      let event = event_of seen p k (omega (arith, at_j, interval_at-le seen p j)) in
      let e = event.0 in
      let before_e : i ≤ e =
      at_or_before seen p e i event.1.step event.1.at event.1.own (omega (arith, at_i, event.1.number)) in
      let behind_e : e < j =
      ⊎_elim
      (λ (before : e < j). before)
      (λ (past : j ≤ e). absurd (omega (arith, at_j, event.1.number, interval_rises seen p j e past)))
      (cases_lt e j) in
      let early = interval_rises c p (is.place i) (is.place e)
      (place_rises i e before_e (omega (arith, behind_e, j_within))) in
      let late = past_event p e j event.1.step event.1.at event.1.own behind_e j_within in
      before_later c p (interval_at c p (is.place i)) (interval_at c p (is.place j)) (omega (arith, early, late))
      (interval_at-le c p (is.place j))

  -- A message that is seen is one.
  message : (s t : State) → IsMessage seen s t → (i j : ℕ) → i < length seen → j < length seen
      → interval_at seen s.process i ≡ s.interval → interval_at seen t.process j ≡ t.interval
      → HappenedBefore c (state_at c s.process (is.place i)) (state_at c t.process (is.place j))
  message s t m i j i_within j_within at_i at_j =
      let p = s.process in
      let q = t.process in
      let sent = event_of_send seen p s.interval m.to m.sent m.send m.from_state in
      let own : is_communication_of q (step.Recv q (message_at seen m.sent)) ≡ true = eq-eqb q q refl in
      let before_sent : i ≤ m.sent =
      at_or_before seen p m.sent i sent.step sent.at sent.own (omega (arith, at_i, m.from_state)) in
      let behind_received : m.received < j =
      ⊎_elim
      (λ (before : m.received < j). before)
      (λ (past : j ≤ m.received). absurd (omega (arith, at_j, m.to_state, interval_rises seen q j m.received past)))
      (cases_lt m.received j) in
      let received_within : m.received < length seen = omega (arith, behind_received, j_within) in
      let sent_within : m.sent < length seen = omega (arith, m.later, received_within) in
      let direct : HappenedBefore c (state_at c p (is.place m.sent))
      (record { process = q; interval = interval_at c q (is.place m.received) + 1 }) =
      Direct (Message (record {
        sent = is.place m.sent;
        received = is.place m.received;
        to = m.to;
        later = is.in_order m.sent m.received m.later received_within;
        send = is.steps m.sent (step.Send p m.to) m.send;
        receive = is.steps m.received (step.Recv q (message_at seen m.sent)) m.receive
            ∙ ap (λ k. Some (step.Recv q k)) (is.sends m.sent p m.to m.send);
        from_state = refl;
        to_state = refl;
      })) in
      let early = interval_rises c p (is.place i) (is.place m.sent) (place_rises i m.sent before_sent sent_within) in
      let late = past_event q m.received j (step.Recv q (message_at seen m.sent)) m.receive own behind_received
      j_within in
      happened_before_later c (state_at c p (is.place i)) q (interval_at c q (is.place m.received) + 1)
      (interval_at c q (is.place j)) late (interval_at-le c q (is.place j))
      (earlier_before c p (interval_at c p (is.place i)) (interval_at c p (is.place m.sent)) early direct)

  directly : (s t : State) → DirectlyPrecedes seen s t → (i j : ℕ) → i < length seen → j < length seen
      → interval_at seen s.process i ≡ s.interval → interval_at seen t.process j ≡ t.interval
      → HappenedBefore c (state_at c s.process (is.place i)) (state_at c t.process (is.place j))
  directly s t (Next process follows exists) i j i_within j_within at_i at_j =
      subst (λ q. HappenedBefore c (state_at c s.process (is.place i)) (state_at c q (is.place j))) process
      (next s.process i j s.interval i_within j_within at_i
      (ap (λ q. interval_at seen q j) process ∙ at_j ∙ sym follows))
  directly s t (Message m) i j i_within j_within at_i at_j = message s t m i j i_within j_within at_i at_j

  -- What happened before by what is seen happened before.
  pub before_seen : (s : State) {t : State} → HappenedBefore seen s t → (i j : ℕ) → i < length seen
      → j < length seen → interval_at seen s.process i ≡ s.interval → interval_at seen t.process j ≡ t.interval
      → HappenedBefore c (state_at c s.process (is.place i)) (state_at c t.process (is.place j))
  before_seen s {t = t} (Direct d) i j i_within j_within at_i at_j = directly s t d i j i_within j_within at_i at_j
  before_seen s {t = t} (Chain {t = u} h d) i j i_within j_within at_i at_j =
      let between : Span seen u t = span seen u (Direct d) in
      let within = slice_get_within seen between.ended between.ends.step between.ends.at in
      before_trans c (state_at c s.process (is.place i)) (state_at c u.process (is.place between.ended))
      (before_seen s h i between.ended i_within within at_i between.ends.number)
      (directly u t d between.ended j within j_within between.ends.number at_j)

  -- The members that are seen of a satisfying cut.
  module _ (n : ℕ) (watched : NumberSet) (cut : Intervals) (satisfying : IsSatisfyingCut n watched c cut) where
    abbrev IsMember : ℕ → Option ℕ → Type 0
    IsMember p o = (is_some o ≡ set.contains watched p) × (set.contains watched p ≡ true
        → IsObservedIn seen c is p (interval_of cut p) (unwrap_or o 0))

    each : (p : ℕ) → p < n → (o : Option ℕ) × IsMember p o
    each p within = ⊎_elim some none (cases_Bool (set.contains watched p))
      where
        some : set.contains watched p ≡ true → (o : Option ℕ) × IsMember p o
        some is_in =
            let found = satisfying.true_states p (record { below = within; member = is_in }) in
            let there = is.observed found.place p found.observed in (
              Some (interval_at seen p there.0),
              (
                sym is_in,
                λ _. record {
                  at = there.0;
                  observed = there.2;
                  in_whole = ap (interval_at c p) there.1 ∙ found.within;
                  in_part = refl;
                },
              ),
            )

        none : set.contains watched p ≡ false → (o : Option ℕ) × IsMember p o
        none isnt_in = (None, (sym isnt_in, λ is_in. absurd (true≢false (sym is_in ∙ isnt_in))))

    chosen : (choice : ℕ → Option ℕ) × ((p : ℕ) → p < n → IsMember p (choice p))
    chosen = choice_from_each None IsMember n each

    pub other : Intervals
    other = map chosen.0 (range_with_len 0 n)

    at_other : (p : ℕ) → p < n → slice_index_or other p None ≡ chosen.0 p
    unfolding other
    at_other p within = get_or-map-range_with_len chosen.0 0 n p p None within (omega arith)

    pub observed_in : (p : ℕ) → IsWatched n watched p
        → IsObservedIn seen c is p (interval_of cut p) (interval_of other p)
    observed_in p is_watched =
        subst (λ o. IsObservedIn seen c is p (interval_of cut p) (unwrap_or o 0)) (sym (at_other p is_watched.below))
        ((chosen.1 p is_watched.below).1 is_watched.member)

    pub other_satisfies : IsSatisfyingCut n watched seen other
    unfolding other
    other_satisfies = record {
      members = record {
        processes = length-map-range_with_len chosen.0 0 n;
        named = λ p within. ap is_some (at_other p within) ∙ (chosen.1 p within).0;
      };
      consistent = λ p q p_is q_is apart before.
          let one = observed_in p p_is in
          let two = observed_in q q_is in
          let real = before_seen (member other p) before one.at two.at
          (slice_get_within seen one.at _ one.observed) (slice_get_within seen two.at _ two.observed)
          one.in_part two.in_part in
          satisfying.consistent p q p_is q_is apart
          (subst (λ k. HappenedBefore c (record { process = p; interval = k }) (member cut q)) one.in_whole
          (subst (λ k. HappenedBefore c (state_at c p (is.place one.at)) (record { process = q; interval = k }))
          two.in_whole real));
      true_states = λ p p_is.
          let one = observed_in p p_is in
          record { place = one.at; observed = one.observed; within = one.in_part };
    }
