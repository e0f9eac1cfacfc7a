-- Rows after one more task.
use Rattle.std.proofs.lemmas.Grind.{common_steps}
use Rattle.draw_layout.proofs.Words.{◌≡◌, ◌≢◌, ◌∙◌, ℕ, ◌+◌, ◌-◌, ◌<◌, true, false, List, [], ◌∷◌, ◌++◌, length, take}
use Rattle.draw_layout.proofs.Words.{count_by, set, slice_get, slice_index, Some, refl, sym, ap, subst, inl, inr}
use Rattle.draw_layout.proofs.Words.{⊎_elim}
use Rattle.draw_layout.proofs.Words.{arith, cases_eq, cases_lt, cases_Bool, same_Some, get_or-set_same}
use Rattle.draw_layout.proofs.Words.{get_or-set_other}
use Rattle.draw_layout.proofs.Words.{get_or_append_left, get_or_push, length_push, take_all, slice_get_within}
use Rattle.draw_layout.proofs.Words.{count_before-yes, count_before-no, count_before-mono, Task, is_event, is_event_of}
use Rattle.draw_layout.proofs.Words.{IsEventAt, replicate, length-replicate, get_or-replicate, get_or, length-set}
use Rattle.draw_layout.proofs.Words.{get_or_default}
use Rattle.std.specs.List.{Contains}
use Rattle.std.specs.List.Sorted.{IsStrictlyIncreasing}
use Rattle.std.proofs.lemmas.List.Elements.{Contains-push, Contains-push_cases, Contains-append_left, Contains-get_or}
use Rattle.wcp_model.proofs.RisingClocks.{rises_to}
use Rattle.wcp_model.proofs.StepsOfOrder.{step_at, observe_task, interval_at_is, communications_is}
use Rattle.wcp_model.specs.declared.workload.Action.TheVariants as action
use Rattle.draw_layout.specs.Rows.{row_at, finds_true, EndsWith, RiseUpTo, HasOneMore, AreEventColumns, AreTrueRows}
use Rattle.draw_layout.specs.Rows.{AreColumnsBefore, AreTruthsBefore, IsTrueBefore}
use Rattle.draw_layout.proofs.Laying.{event_of_task, event_from}

-- a row for each of n processes
pub record AreRowsOf (n : ℕ) (P : ℕ → List ℕ → Type 0) (rows : List (List ℕ)) : Type 0 where
  pub processes : length rows ≡ n
  pub each : (p : ℕ) → p < n → P p (row_at rows p)

pub rows_empty : (n : ℕ) (P : ℕ → List ℕ → Type 0) → ((p : ℕ) → P p []) → AreRowsOf n P (replicate n [])
rows_empty n P none = record {
  processes = length-replicate {A = List ℕ} n [];
  each = λ p below. rw (get_or-replicate {A = List ℕ} n p [] [] below) (none p);
}

pub rows_stay : (n : ℕ) (P Q : ℕ → List ℕ → Type 0) (rows : List (List ℕ)) → ((p : ℕ) (r : List ℕ) → P p r → Q p r)
    → AreRowsOf n P rows → AreRowsOf n Q rows
rows_stay n P Q rows stays before = record {
  processes = before.processes;
  each = λ p below. stays p _ (before.each p below);
}

pub row_read : (n q : ℕ) (P : ℕ → List ℕ → Type 0) (rows : List (List ℕ)) (read : List ℕ) → q < n → AreRowsOf n P rows
    → P q (get_or rows q read)
row_read n q P rows read within are =
    rw (get_or_default rows q read [] (omega (arith, within, are.processes))) (are.each q within)

-- one row is written and each other one stays
pub rows_written : (n q : ℕ) (P Q : ℕ → List ℕ → Type 0) (rows : List (List ℕ)) (row : List ℕ) → q < n
    → AreRowsOf n P rows → ((p : ℕ) → p ≢ q → (r : List ℕ) → P p r → Q p r) → Q q row → AreRowsOf n Q (set rows q row)
rows_written n q P Q rows row within before stays here = record {
  processes = length-set rows q row ∙ before.processes;
  each = λ p below. elim (cases_eq p q) [
    | inl same ↦ rw (same, get_or-set_same rows q row [] (omega (arith, within, before.processes))) here
    | inr other ↦ rw (get_or-set_other rows q p row [] other) (stays p other _ (before.each p below))
  ];
}

module _ (order : List Task) (place : ℕ) (task : Task) (at : slice_get order place ≡ Some task) where
  -- an event of another process leaves a row as it is
  no_event_of : (p : ℕ) → (IsEventAt order p place → ⊥) → is_event_of p task ≡ false
  no_event_of p none = grind (arith, common_steps, cases_Bool)

  pub other_process : (p : ℕ) → p ≢ task.p → IsEventAt order p place → ⊥
  other_process p other event = other (sym (event_of_task event)
      ∙ ap (λ (t : Task). t.p) (same_Some _ _ (sym event.at ∙ at)))

  pub columns_stay : (columns : List ℕ) (p : ℕ) (row : List ℕ) → (IsEventAt order p place → ⊥)
      → AreColumnsBefore order columns place p row → AreColumnsBefore order columns (place + 1) p row
  columns_stay columns p row none are = record {
    events = are.events ∙ sym (count_before-no (is_event_of p) order place task at (no_event_of p none));
    each = λ i event below. elim (cases_eq i place) [
      | inl here ↦ absurd (none (subst (IsEventAt order p) here event))
      | inr other ↦ are.each i event (omega arith)
    ];
  }

  pub columns_more : (columns row : List ℕ) → is_event task.action ≡ true
      → AreColumnsBefore order columns place task.p row → AreColumnsBefore order columns (place + 1) task.p
      (row ++ slice_index columns place ∷ [])
  columns_more columns row is are =
      let event : IsEventAt order task.p place = event_from at is in
      let own : is_event_of task.p task ≡ true = ap (is_event_of task.p) (same_Some _ _ (sym at ∙ event.at))
      ∙ event.own in
      let more = count_before-yes (is_event_of task.p) order place task at own in
      record {
        events = length_push row (slice_index columns place) ∙ ap (λ k. k + 1) are.events ∙ sym more;
        each = λ i event_i below. elim (cases_eq i place) [
          | inl here ↦ rw (
            here,
            get_or_push row (slice_index columns place) 0 (count_by (is_event_of task.p) (take place order)) are.events,
          ) refl
          | inr other ↦
              let one = count_before-yes (is_event_of task.p) order i event_i.task event_i.at event_i.own in
              let fewer = count_before-mono (is_event_of task.p) order (i + 1) place (omega arith) in
              get_or_append_left row (slice_index columns place ∷ []) 0 _ (omega (arith, one, fewer, are.events))
              ∙ are.each i event_i (omega arith)
        ];
      }

  seen_later : (p k : ℕ) → IsTrueBefore order place p k → IsTrueBefore order (place + 1) p k
  seen_later p k it = grind (arith, common_steps)

  seen_earlier : (p k : ℕ) (it : IsTrueBefore order (place + 1) p k) → it.at ≢ place → IsTrueBefore order place p k
  seen_earlier p k it other = grind (arith, common_steps)

  pub truths_stay : (p : ℕ) (row : List ℕ) → ((task.p ≡ p) → (finds_true task.action ≡ true) → ⊥)
      → AreTruthsBefore order place p row → AreTruthsBefore order (place + 1) p row
  truths_stay p row none are = record {
    rising = are.rising;
    each = λ k. (
      (λ has. seen_later p k ((are.each k).0 has)),
      (λ it. (are.each k).1 (seen_earlier p k it (λ here. seen_no (rw here at it.observed)))),
    );
  }
    where
      seen_no : slice_get order place ≡ Some (record { p = p; action = action.Observe true }) → ⊥
      seen_no seen = grind arith

  pub truths_more : (old new : List ℕ) (number : ℕ) → finds_true task.action ≡ true
      → number ≡ count_by (is_event_of task.p) (take place order) → HasOneMore number old new
      → AreTruthsBefore order place task.p old → AreTruthsBefore order (place + 1) task.p new
  truths_more old new number is counted more are = record {
    rising = more.rising;
    each = λ k. (
      λ has. ⊎_elim (λ before. seen_later task.p k ((are.each k).0 before)) (λ here. record {
        at = place;
        before = omega arith;
        observed = at ∙ ap Some (observes task is);
        within = sym counted ∙ sym here;
      }) ((more.each k).0 has),
      λ it. (more.each k).1 elim (cases_eq it.at place) [
        | inl here ↦ inr (sym (rw here at it.within) ∙ sym counted)
        | inr other ↦ inl ((are.each k).1 (seen_earlier task.p k it other))
      ],
    );
  }
    where
      observes : (t : Task) → finds_true t.action ≡ true → t ≡ record { p = t.p; action = action.Observe true }
      observes t found = grind arith

  -- what is observed so far is in an interval up to this
  pub truths_below : (p : ℕ) (row : List ℕ) (number : ℕ) → number ≡ count_by (is_event_of p) (take place order)
      → AreTruthsBefore order place p row → RiseUpTo number row
  truths_below p row number counted are = record {
    rising = are.rising;
    below = λ k has. let it = (are.each k).0 has in omega
        (arith, it.within, counted, count_before-mono (is_event_of p) order it.at place (omega (arith, it.before)));
  }

-- no row has numbers before the first task
pub no_columns : (order : List Task) (columns : List ℕ) (p : ℕ) → AreColumnsBefore order columns 0 p []
no_columns order columns p = record { events = refl; each = λ i event below. absurd (omega (arith, below)) }

pub no_truths : (order : List Task) (p : ℕ) → AreTruthsBefore order 0 p []
no_truths order p = record {
  rising = λ k below. absurd (omega (arith, below));
  each = λ k. (λ has. absurd (no_member k has), λ it. absurd (omega (arith, it.before)));
}
  where
    no_member : (k : ℕ) → Contains [] k → ⊥
    no_member k has = grind arith

-- a number that is above all others but the last one joins them
module _ (number : ℕ) (row : List ℕ) (rise : RiseUpTo number row) where
  pub has_already : EndsWith number row → HasOneMore number row row
  has_already ends =
      let here : Contains row number = subst (Contains row) ends.1
      (Contains-get_or row (length row - 1) 0 (omega (arith, ends.0))) in
      record { rising = rise.rising; each = λ k. (λ has. inl has, ⊎_elim (λ has. has) (λ same. rw same here)) }

  pub has_more : (EndsWith number row → ⊥) → HasOneMore number row (row ++ number ∷ [])
  has_more other = record {
    rising = rising_push;
    each = λ k. (
      λ has. ⊎_elim inl (λ same. inr (sym same)) (Contains-push_cases row number k has),
      ⊎_elim (λ has. Contains-append_left row (number ∷ []) k has) (λ same. rw same (Contains-push row number)),
    );
  }
    where
      last_below : (i : ℕ) → i < length row → slice_index row i < number
      last_below i below =
          let last : ℕ = length row - 1 in
          let le = rises_to row i last rise.rising (omega (arith, below)) (omega (arith, below)) in
          let most = rise.below (slice_index row last) (Contains-get_or row last 0 (omega (arith, below))) in
          elim (cases_lt (slice_index row last) number) [
            | inl less ↦ omega (arith, le, less)
            | inr same ↦ absurd (other (omega (arith, below), omega (arith, same, most)))
          ]

      rising_push : IsStrictlyIncreasing (row ++ number ∷ [])
      rising_push k below = grind (arith, rise.rising, last_below, get_or_append_left, get_or_push, length_push)

-- the rows of all tasks
module _ (n : ℕ) (order : List Task) (rows : List (List ℕ)) where
  pub AreEventColumns-all : (columns : List ℕ) (place : ℕ) → place ≡ length order
      → AreRowsOf n (AreColumnsBefore order columns place) rows → AreEventColumns n order columns rows
  AreEventColumns-all columns place all are = record {
    processes = are.processes;
    events = λ p below. (are.each p below).events ∙ ap (count_by (is_event_of p))
        (take_all place order (omega (arith, all))) ∙ sym (communications_is n order p);
    each = λ p i below event. ap (slice_index (row_at rows p)) (interval_at_is n order p i)
        ∙ (are.each p below).each i event (omega (arith, all, slice_get_within order i event.task event.at));
  }

  pub AreTrueRows-all : (place : ℕ) → place ≡ length order → AreRowsOf n (AreTruthsBefore order place) rows
      → AreTrueRows n order rows
  AreTrueRows-all place all are = record {
    processes = are.processes;
    each = λ p below. record {
      rising = (are.each p below).rising;
      each = λ k. (
        λ has. let it = ((are.each p below).each k).0 has in record {
          place = it.at;
          observed = step_at n order it.at _ it.observed;
          within = interval_at_is n order p it.at ∙ it.within;
        },
        λ it. let there = observe_task n order it.place p true it.observed in
            ((are.each p below).each k).1 (record {
              at = it.place;
              before = omega (arith, all, slice_get_within order it.place _ there);
              observed = there;
              within = sym (interval_at_is n order p it.place) ∙ it.within;
            }),
      );
    };
  }
