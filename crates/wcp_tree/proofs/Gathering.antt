-- A set to which one number after another is added where it passes.
use Rattle.wcp_tree.proofs.Words.{◌≡◌, ◌↔◌, ℕ, ◌+◌, ◌<◌, true, true≢false, sym, ◌∙◌, arith, nat_cmp, cases_eq}
use Rattle.wcp_tree.proofs.Words.{nat_tests, Numbers}
use Rattle.std.specs.FinSet as set
use Rattle.wcp_clock.proofs.Marks.{contains_with}

-- the set has just the numbers below k that are P
pub record HasAllBelow (members : Numbers) (k : ℕ) (P : ℕ → Type 0) : Type 0 where
  pub each : (q : ℕ) → (set.contains members q ≡ true) ↔ ((q < k) × P q)

pub none_below : (P : ℕ → Type 0) → HasAllBelow set.empty 0 P
none_below P = record {
  each = λ q. ((λ e. absurd (true≢false (sym e ∙ set.contains-empty nat_cmp q))), (λ h. absurd (omega (arith, h.0))));
}

pub one_more : (members : Numbers) (k : ℕ) (P : ℕ → Type 0) → HasAllBelow members k P → P k
    → HasAllBelow (set.insert members k) (k + 1) P
one_more members k P has passes = record {
  each = λ q. (
    (λ is. grind (arith, nat_tests, is, contains_with members k q, (has.each q).0, passes, cases_eq q k)),
    (λ h. grind (arith, nat_tests, h, contains_with members k q, (has.each q).1, cases_eq q k)),
  );
}

pub no_more : (members : Numbers) (k : ℕ) (P : ℕ → Type 0) → HasAllBelow members k P → (P k → ⊥)
    → HasAllBelow members (k + 1) P
no_more members k P has fails = record {
  each = λ q. (
    (λ is. grind (arith, (has.each q).0 is)),
    (λ h. (has.each q).1 (grind (arith, h, fails, cases_eq q k))),
  );
}
