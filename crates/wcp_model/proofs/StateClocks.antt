use Rattle.wcp_model.proofs.Words.{common_steps, ◌≡◌, ℕ, zero, suc, ◌<◌, ◌≤◌, ◌⊎◌, ◌↔◌, List, map, inl, inr, sym, ◌∙◌}
use Rattle.wcp_model.proofs.Words.{arith, cases_eq, ext_get_or, length-map-range_with_len, get_or-map-range_with_len}
use Rattle.wcp_model.proofs.Words.{range_with_len, State, Computation, IsState, communications, HappenedBefore}
use Rattle.wcp_model.proofs.Words.{CountsBefore, IsStateClock, StatesHaveClocks}
use Rattle.wcp_model.proofs.Predecessors.{local_state, before_rises, before_from_state, before_later, earlier_before}

-- of its own process as many states happened before a state as its interval says
pub own_counts : (c : Computation) (s : State) → IsState c s → CountsBefore c s s.process s.interval
own_counts c s exists l =
    (before_rises c s.process l s.interval, λ below. before_later c s.process l s.interval below exists)

-- one number counts the states of a process before a state
count_alone : (c : Computation) (s : State) (q one other : ℕ) → CountsBefore c s q one → CountsBefore c s q other
    → one ≡ other
count_alone c s q one other is also = grind (arith, is one, is other, also one, also other)

-- so a state has one clock
pub clock_alone : (n : ℕ) (c : Computation) (s : State) (one other : List ℕ) → IsStateClock n c s one
    → IsStateClock n c s other → one ≡ other
clock_alone n c s one other is also =
    ext_get_or 0 one other (omega (arith, is.components, also.components)) (λ i lt. elim (cases_eq i s.process) [
      | inl own ↦ rw own (is.own ∙ sym also.own)
      | inr differs ↦ count_alone c s i _ _ (is.others i (omega (arith, is.components)) differs)
          (also.others i (omega (arith, is.components)) differs)
    ])

-- a decided fact of numbers below a bound, that holds of each number below one of which it holds, holds of just the
-- first ones
first_ones : (P : ℕ → Type 0) → ((k : ℕ) → P k ⊎ (P k → ⊥)) → ((k l : ℕ) → k ≤ l → P l → P k) → (bound : ℕ)
    → ((k : ℕ) → P k → k < bound) → (count : ℕ) × ((k : ℕ) → P k ↔ (k < count))
first_ones P decided closed zero below = (0, λ k. (below k, λ none. absurd (omega arith)))
first_ones P decided closed (suc bound) below = elim (decided bound) [
  | inl last ↦ (suc bound, λ k. (below k, λ lt. closed k bound (omega arith) last))
  | inr not_last ↦ first_ones P decided closed bound (grind arith)
]

module _ (decided : (c : Computation) (s t : State) → HappenedBefore c s t ⊎ (HappenedBefore c s t → ⊥)) where
  -- how many states of a process happened before a state
  counted : (c : Computation) (s : State) (q : ℕ) → (count : ℕ) × CountsBefore c s q count
  counted c s q =
      first_ones (λ l. HappenedBefore c (local_state q l) s) (λ l. decided c (local_state q l) s)
      (λ k l le h. earlier_before c q k l le h)
      (suc (communications c q)) (λ l h. omega (arith, before_from_state c (local_state q l) h))

  own_count : (c : Computation) (s : State) → IsState c s → (counted c s s.process).0 ≡ s.interval
  own_count c s exists = count_alone c s s.process _ _ (counted c s s.process).1 (own_counts c s exists)

  -- each state has a clock
  pub clock_from_decision : StatesHaveClocks
  clock_from_decision n c s in_range exists =
      let component : ℕ → ℕ = λ q. (counted c s q).0 in (
        map component (range_with_len 0 n),
        grind (arith, common_steps, get_or-map-range_with_len, length-map-range_with_len, own_count),
      )
