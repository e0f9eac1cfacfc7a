-- The messages that are in transit after tasks in a fit order.
use Rattle.wcp_order.proofs.Words.{add-one, suc, count_before-no, count_before-past, element_within, cases_Bool, ◌≡◌, ℕ}
use Rattle.wcp_order.proofs.Words.{◌+◌, ◌*◌, ◌<◌, ◌≤◌, Bool, true, false, List, [], ◌∷◌, ◌++◌, length, take, count_by}
use Rattle.wcp_order.proofs.Words.{replicate, Some, refl, ◌∙◌, ap, arith, inl, inr, set, get_or-set_same}
use Rattle.wcp_order.proofs.Words.{get_or-set_other, All, slice_index, slice_get, cases_eq, cases_lt, length-set}
use Rattle.wcp_order.proofs.Words.{length-replicate, get_or-replicate, length_push, take-append-le, take_all, All-push}
use Rattle.wcp_order.proofs.Words.{All-nil, sum_by_push, Action, Task, sends, receives, IsWithin, IsFitOrder, sends_yes}
use Rattle.wcp_order.proofs.Words.{receives_yes, count_before-yes, element_after, IsDone, IsReady, in_transit_after}
use Rattle.std.proofs.lemmas.Nat.{mul-add-lt, same_from_place}
use Rattle.wcp_model.specs.declared.workload.Action.TheVariants as action
use Rattle.wcp_order.proofs.Tasks.{at_place, receives_is, receive_is_no_send, sends_ends, receives_ends}

pub count_by_push_passing : {X : Type 0} (f : X → Bool) (xs : List X) (x : X) → f x ≡ true
    → count_by f (xs ++ x ∷ []) ≡ count_by f xs + 1
count_by_push_passing f xs x passes = grind (arith, sum_by_push)

pub count_by_push_failing : {X : Type 0} (f : X → Bool) (xs : List X) (x : X) → f x ≡ false
    → count_by f (xs ++ x ∷ []) ≡ count_by f xs
count_by_push_failing f xs x fails = grind (arith, sum_by_push)

-- on each channel of n processes, what was received and what is in transit was sent
abbrev IsCounted : ℕ → List Task → List ℕ → Type 0
IsCounted n order in_transit =
    (p q : ℕ) → p < n → q < n
    → count_by (receives p q) order + slice_index in_transit (p * n + q) ≡ count_by (sends p q) order

-- an order of tasks within the limits has no more receives on a channel than sends
sent_at_end : (n : ℕ) (order : List Task) (in_transit : List ℕ) → All (IsWithin n) order → IsCounted n order in_transit
    → (p q : ℕ) → count_by (receives p q) order ≤ count_by (sends p q) order
sent_at_end n order in_transit within counted p q = elim (cases_lt 0 (count_by (receives p q) order)) [
  | inl some ↦
      let (task, received) = element_after (receives p q) order 0 some in
      let found = received.found ∙ ap Some (receives_is p q task received.passes) in
      let limits = at_place (IsWithin n) order received.place _ within found in
      omega (arith, counted p q limits.1.0 limits.0)
  | inr none ↦ omega (arith, none)
]

-- nothing is in transit where nothing is done
pub none_done : (n : ℕ) (in_transit : List ℕ) → in_transit ≡ replicate (n * n) 0 → IsDone n [] in_transit
none_done n in_transit none = grind (arith, length-replicate, All-nil, get_or-replicate, mul-add-lt)

module _ (n : ℕ) (order : List Task) (in_transit : List ℕ) (done : IsDone n order in_transit) where
  -- where a task counts on the channel from a to b alone, the count there is written and each other one stays
  counted_set : (task : Task) (a b value : ℕ) → a < n → b < n
      → ((p q : ℕ) → ((p ≡ a) → (q ≡ b) → ⊥) → (sends p q task ≡ false) × (receives p q task ≡ false))
      → count_by (receives a b) (order ++ task ∷ []) + value ≡ count_by (sends a b) (order ++ task ∷ [])
      → IsCounted n (order ++ task ∷ []) (set in_transit (a * n + b) value)
  counted_set task a b value a_within b_within elsewhere here p q p_within q_within =
      elim (cases_eq (p * n + q) (a * n + b)) [
        | inl same ↦
            let inside = mul-add-lt a n b n a_within b_within in
            let placed = get_or-set_same in_transit (a * n + b) value 0 (omega (arith, inside, done.channels)) in
            grind (arith, placed, same_from_place p q a b n q_within b_within same)
        | inr other ↦ grind (arith, count_by_push_failing, get_or-set_other, done.counted)
      ]

  counted_more : (a : ℕ) (act : Action) → IsWithin n (record { p = a; action = act }) → IsReady n in_transit a act
      → IsCounted n (order ++ record { p = a; action = act } ∷ []) (in_transit_after n in_transit a act)
  counted_more a (action.Observe holds) task_within ready = grind (arith, count_by_push_failing, done.counted)
  counted_more a (action.Send b) task_within ready =
      grind (arith, count_by_push_failing, count_by_push_passing, counted_set, sends_ends, sends_yes, done.counted)
  counted_more a (action.Recv b) task_within ready =
      grind (
        arith,
        count_by_push_failing,
        count_by_push_passing,
        counted_set,
        receives_ends,
        receives_yes,
        done.counted,
      )

  -- a task that is ready is done
  pub done_more : (a : ℕ) (act : Action) → IsWithin n (record { p = a; action = act }) → IsReady n in_transit a act
      → IsDone n (order ++ record { p = a; action = act } ∷ []) (in_transit_after n in_transit a act)
  done_more a act task_within ready =
      let task : Task = record { p = a; action = act } in
      let after : List ℕ = in_transit_after n in_transit a act in
      let within : All (IsWithin n) (order ++ task ∷ []) = All-push (IsWithin n) order task done.within task_within in
      let counted = counted_more a act task_within ready in
      record {
        channels = grind (arith, length-set, done.channels);
        within = within;
        fit = record {
          same_tasks = λ p. refl;
          sent_first = λ place p q.
              grind (
                arith,
                take_all,
                take-append-le,
                length_push,
                sent_at_end n (order
                    ++ task ∷ []) after within counted p q,
                done.fit.sent_first place p q,
                cases_lt (length order) place,
              );
        };
        counted = counted;
      }

-- what is received by one place on was sent before
pub sent_before : (order : List Task) → IsFitOrder order order → (k p q : ℕ)
    → count_by (receives p q) (take (suc k) order) ≤ count_by (sends p q) (take k order)
sent_before order fit k p q = rw (← add-one k) elim (cases_lt k (length order)) [
  | inl inside ↦
      let (task, at) = element_within order k inside in
      let now = fit.sent_first k p q in
      let next = fit.sent_first (k + 1) p q in
      let sent = count_before-no (sends p q) order k task at in
      let received = count_before-no (receives p q) order k task at in
      let is = receives_is p q task in
      grind (arith, now, next, sent, received, is, receive_is_no_send p q q p, cases_Bool (receives p q task))
  | inr past ↦ omega (arith, fit.sent_first k p q, count_before-past (receives p q) order k past)
]

-- in a listing that is fit what is next is ready
pub ready_if_fit : (n : ℕ) (tasks : List Task) (place : ℕ) (in_transit : List ℕ) → All (IsWithin n) tasks
    → IsDone n (take place tasks) in_transit → IsFitOrder tasks tasks → (p : ℕ) (act : Action)
    → slice_get tasks place ≡ Some (record { p = p; action = act }) → IsReady n in_transit p act
ready_if_fit n tasks place in_transit within done fit p (action.Observe holds) at = tt
ready_if_fit n tasks place in_transit within done fit p (action.Send to) at = tt
ready_if_fit n tasks place in_transit within done fit p (action.Recv from) at =
    let here = at_place (IsWithin n) tasks place (record { p = p; action = action.Recv from }) within at in
    let more = count_before-yes (receives from p) tasks place _ at (receives_yes from p) in
    let before = rw (← add-one place) at (sent_before tasks fit place from p) in
    omega (arith, more, before, done.counted from p here.1.0 here.0)
