-- Why each member of a least cut is emitted.
use Rattle.wcp_model.proofs.Words.{NumberSet, Flag, Intervals, NamesWatched, IsWatched, interval_of, ◌≡◌, ◌≢◌, ℕ, ◌<◌}
use Rattle.wcp_model.proofs.Words.{◌≤◌, ◌⊎◌, Some, None, unwrap_or, slice_get, slice_index_or, slice_set, refl, sym, ap}
use Rattle.wcp_model.proofs.Words.{◌∙◌, subst, inl, inr, ⊎_elim, arith, cases_lt, cases_eq, length-set, get_or-set_same}
use Rattle.wcp_model.proofs.Words.{get_or-set_other, State, Send, Computation, IsTrueState, interval_at, member}
use Rattle.wcp_model.proofs.Words.{IsSatisfyingCut, IsLeastCut, IsEmittedState, WasReset, EventFlagLaw, SendFlagLaw}
use Rattle.wcp_model.proofs.Words.{HappenedBefore, Direct, Chain, DirectlyPrecedes, Next, Message}
use Rattle.wcp_model.proofs.CutLaws.{happened_before_later, least_from_decider}
use Rattle.wcp_model.proofs.EventPlaces.{event_of}
use Rattle.wcp_model.proofs.Flags.{reset_decided}
use Rattle.wcp_model.proofs.Predecessors.{local_state}
use Rattle.wcp_model.proofs.Reached.{same_state, true_state_exists, satisfying_decided}

-- between two intervals of a process there is an event, which resets the flag where each event does
pub event_flag_holds : EventFlagLaw
event_flag_holds watched c s is_watched true_state = record {
  watched_process = is_watched;
  true_state = true_state;
  first = λ k below earlier.
      let (place, event) = event_of c s.process k (omega (arith, true_state_exists c s true_state)) in
      record {
        place = place;
        step = event.step;
        at = event.at;
        resetting = event.own;
        from = omega (arith, event.number);
        before = omega (arith, event.number);
      };
}

-- Between the intervals i and k of process p no event resets the flag, so none of them is a send.
module _ (flag : Flag) (c : Computation) (p i k : ℕ) (order : i < k) (none : WasReset flag c p i k → ⊥) where
  no_send : (place to : ℕ) → slice_get c place ≡ Some (Send p to) → i ≤ interval_at c p place
      → interval_at c p place < k → ⊥
  no_send place to at from before = grind arith

  -- what the earlier state happened before is a state up to the later, or the later happened before it
  abbrev IsOnTheWay : State → Type 0
  IsOnTheWay t = ((t.process ≡ p) × (i ≤ t.interval) × (t.interval ≤ k)) ⊎ HappenedBefore c (local_state p k) t

  -- one step on from a state up to the later
  on_from : (s t : State) → s.process ≡ p → i ≤ s.interval → s.interval ≤ k → DirectlyPrecedes c s t → IsOnTheWay t
  on_from s t own from to step = elim (cases_lt s.interval k) [
    | inl earlier ↦ before_it step earlier
    | inr last ↦
        let same : s ≡ local_state p k = same_state s (local_state p k) own (omega arith) in
        inr (Direct (subst (λ u. DirectlyPrecedes c u t) same step))
  ]
    where
      before_it : DirectlyPrecedes c s t → s.interval < k → IsOnTheWay t
      before_it (Next process interval exists) earlier = inl (sym process ∙ own, omega arith, omega arith)
      before_it (Message m) earlier = grind arith

  on_the_way : {t : State} → HappenedBefore c (local_state p i) t → IsOnTheWay t
  on_the_way {t = t} (Direct step) = on_from (local_state p i) t refl (omega arith) (omega arith) step
  on_the_way {t = u} (Chain {t = t} before step) = ⊎_elim
      (λ (here : (t.process ≡ p) × (i ≤ t.interval) × (t.interval ≤ k)). on_from t u here.0 here.1 here.2 step)
      (λ (after : HappenedBefore c (local_state p k) t). inr (Chain after step))
      (on_the_way before)

  -- so the later state happened before each state of another process that the earlier did
  pub later_before : (q l : ℕ) → p ≢ q → HappenedBefore c (local_state p i) (local_state q l)
      → HappenedBefore c (local_state p k) (local_state q l)
  later_before q l apart before = grind (arith, local_state, on_the_way)

-- a cut with another interval at a watched process
module _ (n : ℕ) (watched : NumberSet) (cut : Intervals) (names : NamesWatched n watched cut) (p i : ℕ)
    (is : IsWatched n watched p) where
  abbrev pub moved : Intervals
  moved = slice_set cut p (Some i)

  moved_here : slice_index_or moved p None ≡ Some i
  moved_here = get_or-set_same cut p (Some i) None (omega (arith, is.below, names.processes))

  moved_elsewhere : (q : ℕ) → p ≢ q → slice_index_or moved q None ≡ slice_index_or cut q None
  moved_elsewhere q other = get_or-set_other cut p q (Some i) None (λ same. other (sym same))

  pub interval_of-moved_here : interval_of moved p ≡ i
  interval_of-moved_here = ap (λ o. unwrap_or o 0) moved_here

  pub interval_of-moved : (q : ℕ) → p ≢ q → interval_of moved q ≡ interval_of cut q
  interval_of-moved q other = ap (λ o. unwrap_or o 0) (moved_elsewhere q other)

  pub moved_names : NamesWatched n watched moved
  moved_names = grind (arith, length-set, cases_eq, moved, moved_here, moved_elsewhere)

-- An earlier true state of a member's process, since which nothing resets the flag, may stand for the member: so a
-- least
-- cut has none.
module _ (n : ℕ) (watched : NumberSet) (flag : Flag) (c : Computation) (cut : Intervals)
    (satisfying : IsSatisfyingCut n watched c cut) (p i : ℕ) (is : IsWatched n watched p)
    (earlier : i < interval_of cut p) (true_state : IsTrueState c (local_state p i))
    (none : WasReset flag c p i (interval_of cut p) → ⊥) where
  pub lower : Intervals
  lower = moved n watched cut satisfying.members p i is

  here : interval_of lower p ≡ i
  unfolding lower
  here = interval_of-moved_here n watched cut satisfying.members p i is

  elsewhere : (q : ℕ) → p ≢ q → interval_of lower q ≡ interval_of cut q
  unfolding lower
  elsewhere = interval_of-moved n watched cut satisfying.members p i is

  names : NamesWatched n watched lower
  unfolding lower
  names = moved_names n watched cut satisfying.members p i is

  pub lower_is_satisfying : IsSatisfyingCut n watched c lower
  lower_is_satisfying = record {
    members = names;
    consistent = λ q r q_is r_is apart before. elim (cases_eq p q) [
      | inl first ↦
          let from = subst (λ k. HappenedBefore c (local_state q k) (member lower r))
          (ap (interval_of lower) (sym first) ∙ here) before in
          let to = subst (λ k. HappenedBefore c (local_state q i) (local_state r k))
          (elsewhere r (λ same. apart (sym first ∙ same))) from in
          absurd (satisfying.consistent q r q_is r_is apart
          (subst (λ o. HappenedBefore c (member cut o) (member cut r)) first
          (later_before flag c p i (interval_of cut p) earlier none r (interval_of cut r)
          (λ same. apart (sym first ∙ same))
          (subst (λ o. HappenedBefore c (local_state o i) (member cut r)) (sym first) to))))
      | inr q_other ↦ elim (cases_eq p r) [
        | inl second ↦
            let to = subst (λ k. HappenedBefore c (member lower q) (local_state r k))
            (ap (interval_of lower) (sym second) ∙ here) before in
            let from = subst (λ k. HappenedBefore c (local_state q k) (local_state r i)) (elsewhere q q_other) to in
            let later = subst (λ o. i ≤ interval_of cut o) second (omega arith) in
            absurd (satisfying.consistent q r q_is r_is apart
            (happened_before_later c (member cut q) r i (interval_of cut r) later
            (true_state_exists c (member cut r) (satisfying.true_states r r_is)) from))
        | inr r_other ↦
            let from = subst (λ k. HappenedBefore c (local_state q k) (member lower r)) (elsewhere q q_other) before in
            let to = subst (λ k. HappenedBefore c (member cut q) (local_state r k)) (elsewhere r r_other) from in
            absurd (satisfying.consistent q r q_is r_is apart to)
      ]
    ];
    true_states = λ q q_is. elim (cases_eq p q) [
      | inl same ↦ subst (λ o. IsTrueState c (member lower o)) same
          (subst (λ k. IsTrueState c (local_state p k)) (sym here) true_state)
      | inr other ↦ subst (λ k. IsTrueState c (local_state q k)) (sym (elsewhere q other))
          (satisfying.true_states q q_is)
    ];
  }

  pub lower_lies_below : interval_of lower p < interval_of cut p
  lower_lies_below = omega (arith, here)

-- the send-flag law
pub send_flag_holds : SendFlagLaw
send_flag_holds n watched flag c cut least p is = record {
  watched_process = is.member;
  true_state = least.one.true_states p is;
  first = λ i earlier true_state. ⊎_elim
      (λ (reset : WasReset flag c p i (interval_of cut p)). reset)
      (λ (none : WasReset flag c p i (interval_of cut p) → ⊥).
      let lower = lower_is_satisfying n watched flag c cut least.one p i is earlier true_state none in
      absurd (omega (
        arith,
        least.below _ lower p is,
        lower_lies_below n watched flag c cut least.one p i is earlier true_state none,
      )))
      (reset_decided flag p i (interval_of cut p) c);
}

-- where there is a satisfying cut, there is a least one, and each member of it is emitted
pub record IsEmittedLeast (n : ℕ) (watched : NumberSet) (flag : Flag) (c : Computation) : Type 0 where
  pub cut : Intervals
  pub least : IsLeastCut n watched c cut
  pub emitted : (p : ℕ) → IsWatched n watched p → IsEmittedState watched flag c (member cut p)

pub emitted_least : (n : ℕ) (watched : NumberSet) (flag : Flag) (c : Computation) (cut : Intervals)
    → IsSatisfyingCut n watched c cut → IsEmittedLeast n watched flag c
emitted_least n watched flag c cut satisfying =
    let (lowest, least) = least_from_decider satisfying_decided n watched c cut satisfying in
    record { cut = lowest; least = least; emitted = send_flag_holds n watched flag c lowest least }
