-- What is known of each watched process.
use Rattle.std.proofs.Common.{arith}
use Rattle.wcp_model.proofs.Words.{ℕ, ◌<◌, true≢false, sym, ◌∙◌, inl, inr, cases_Bool, NumberSet, IsWatched}
use Rattle.std.specs.FinSet as set
use Rattle.wcp_model.proofs.Choosing.{choice_from_each}
use Rattle.wcp_model.proofs.Decided.{Decided, decided_from, all_below_decided}

module _ (n : ℕ) (watched : NumberSet) where
  -- one for each watched process, from one for each
  module _ {X : Type 0} (none : X) (P : ℕ → X → Type 0) (each : (p : ℕ) → IsWatched n watched p → (x : X) × P p x) where
    one_for : (p : ℕ) → p < n → (x : X) × (IsWatched n watched p → P p x)
    one_for p below = elim (cases_Bool (set.contains watched p)) [
      | inl member ↦ grind arith
      | inr out ↦ (none, λ is. absurd (true≢false (sym is.member ∙ out)))
    ]

    pub choice_of_watched : (choice : ℕ → X) × ((p : ℕ) → IsWatched n watched p → P p (choice p))
    choice_of_watched =
        let (choice, holds) = choice_from_each none (λ p x. IsWatched n watched p → P p x) n one_for in
        (choice, λ p is. holds p is.below is)

  -- what is decided of each watched process is decided of all of them
  pub all_watched_decided : (P : ℕ → Type 0) → ((p : ℕ) → IsWatched n watched p → Decided (P p))
      → Decided ((p : ℕ) → IsWatched n watched p → P p)
  all_watched_decided P each =
      decided_from (λ all p is. all p is.below is) (λ all p below is. all p is)
      (all_below_decided (λ p. IsWatched n watched p → P p) n decided)
    where
      decided : (p : ℕ) → p < n → Decided (IsWatched n watched p → P p)
      decided p below = elim (cases_Bool (set.contains watched p)) [
        | inl member ↦
            let is : IsWatched n watched p = record { below = below; member = member } in
            decided_from (λ holds _. holds) (λ holds. holds is) (each p is)
        | inr out ↦ inl (λ is. absurd (true≢false (sym is.member ∙ out)))
      ]
