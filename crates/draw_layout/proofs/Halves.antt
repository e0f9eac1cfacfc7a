-- The two halves, one after the other.
use Rattle.std.proofs.lemmas.Grind.{common_steps}
use Rattle.draw_layout.proofs.Words.{◌≡◌, ◌∙◌, ℕ, ◌+◌, ◌<◌, ◌≤◌, ◌⊎◌, Bool, true, false, List, length, slice_index}
use Rattle.draw_layout.proofs.Words.{slice_index_or, sym, inl, inr, arith, cases_Bool, false≢true, slice_get_within}
use Rattle.draw_layout.proofs.Words.{Task, IsFitOrder, IsEventAt, IsOfHalf, IsClosed, MayStand, IsLaid, AreColumns}
use Rattle.draw_layout.proofs.Laying.{next_stays, send_event, receive_event}

-- the first half, where nothing stands in a column
pub may_first : (order : List Task) (halves : List Bool) (zeros : List ℕ) → IsClosed order halves
    → ((i : ℕ) → slice_index zeros i ≡ 0) → MayStand order halves true zeros
may_first order halves zeros closed none = record {
  none = λ i own. none i;
  own = λ p i j at_i at_j less own. inl (closed.own p i j at_i at_j less own);
  message = λ sent received message own. inl (closed.message sent received message own);
}

module _ (order : List Task) (halves : List Bool) (zeros columns last : List ℕ)
    (none : (i : ℕ) → slice_index zeros i ≡ 0) (first : IsLaid order halves true 0 zeros (length order) columns last)
  where
    -- the rest does not stand
    rest_none : (i : ℕ) → IsOfHalf halves false i → slice_index columns i ≡ 0
    rest_none i own = first.kept i (λ also. false≢true (sym own ∙ also)) ∙ none i

    -- an event of the first half stands
    first_stands : (p i : ℕ) → IsEventAt order p i → IsOfHalf halves false i ⊎ (0 < slice_index columns i)
    first_stands p i at_i = elim (cases_Bool (slice_index_or halves i false)) [
      | inl own ↦ inr (first.laid p i at_i own (slice_get_within order i at_i.task at_i.at))
      | inr other ↦ inl other
    ]

    pub may_second : MayStand order halves false columns
    may_second = record {
      none = rest_none;
      own = λ p i j at_i at_j less own. first_stands p j at_j;
      message = λ sent received message own. first_stands message.from sent (send_event message);
    }

    module _ (line : ℕ) (above : (i : ℕ) → slice_index columns i < line) where
      pub second_starts : IsLaid order halves false line columns 0 columns last
      second_starts = grind (arith, common_steps, rest_none)

      pub both_laid : (after end : List ℕ) → 0 < line → line ≤ length order + 1 → IsFitOrder order order
          → IsLaid order halves false line columns (length order) after end → AreColumns order halves after line
      both_laid after end some few fit second = record {
        some_line = some;
        few_lines = few;
        few_columns = second.few_columns;
        tasks = second.stand.tasks;
        only = second.stand.only;
        own = λ p i j at_i at_j less. (second.stand.own p i j at_i at_j less (stands p i at_i)).1;
        message = λ sent received is. (second.stand.message sent received is
            (stands is.to received (receive_event is))).1;
        before = λ p i at_i own. let same = stays i own in
            (stands p i at_i, omega (arith, same, above i));
        behind = λ p i at_i own. second.laid p i at_i own (slice_get_within order i at_i.task at_i.at);
        next_before = λ p i at_i own.
            let within = slice_get_within order i at_i.task at_i.at in
            next_stays first.stand stood at_i (first.laid p i at_i own within) (first.next p i at_i own within);
        next_behind = λ p i at_i own. second.next p i at_i own (slice_get_within order i at_i.task at_i.at);
      }
        where
          stays : (i : ℕ) → IsOfHalf halves true i → slice_index after i ≡ slice_index columns i
          stays i own = second.kept i (λ also. false≢true (sym also ∙ own))

          stood : (k : ℕ) → 0 < slice_index columns k → slice_index after k ≡ slice_index columns k
          stood k positive = second.kept k (λ other. omega (arith, rest_none k other, positive))

          stands : (p i : ℕ) → IsEventAt order p i → 0 < slice_index after i
          stands p i at_i = elim (cases_Bool (slice_index_or halves i false)) [
            | inl own ↦ omega (arith, stays i own, first.laid p i at_i own (slice_get_within order i at_i.task at_i.at))
            | inr other ↦ omega (arith, second.laid p i at_i other (slice_get_within order i at_i.task at_i.at))
          ]
