use Rattle.wcp_model.proofs.Words.{true≢false, sym, ◌∙◌, ◌<◌, inl, inr, ◌≡◌, ℕ, ◌≤◌, List, [], ◌∷◌, Some, length, take}
use Rattle.wcp_model.proofs.Words.{slice_get, true, subst, arith, list_any, length-replicate, get_or-replicate, Parent}
use Rattle.wcp_model.proofs.Words.{Root, Relay, Plan, most_processes, most_cap, most_hold, is_number, plain_attach}
use Rattle.wcp_model.proofs.Words.{IsPlainPlan, IsPath, IsCheckedPlan}
use Rattle.std.specs.FinSet as set
use Rattle.std.proofs.lemmas.Bool.Decides.{nat_tests}
use Rattle.wcp_model.specs.declared.plan.PlanFault.TheVariants as fault

-- one relay under the root has no relay as its parent
pub under_root : (relay above : ℕ) → ¬ (slice_get (Root ∷ []) relay ≡ Some (Relay above))
under_root relay above parent = grind arith

-- so a path has one relay
pub path_under_root : (path : List ℕ) → IsPath (Root ∷ []) path → length path ≤ 1
path_under_root [] path = absurd path
path_under_root (relay ∷ []) path = omega arith
path_under_root (relay ∷ above ∷ rest) path = absurd (under_root relay above path.0)

-- which serves processes, if there are any
plain_leaf : (n : ℕ) → 1 ≤ n → list_any (is_number 0) (take n (plain_attach n)) ≡ true
plain_leaf n some = grind arith

-- a plain plan has no fault within the limits
pub plain_is_checked : (n cap hold : ℕ) (plan : Plan) → IsPlainPlan n cap hold plan → 1 ≤ n → n ≤ most_processes
    → 1 ≤ cap → cap ≤ most_cap → 1 ≤ hold → hold ≤ most_hold → IsCheckedPlan plan
plain_is_checked n cap hold plan is some few cap_low cap_high hold_low hold_high = none
  where
    none : IsCheckedPlan plan
    none fault.Procs = grind (arith, is.processes)
    none fault.Cap = grind (arith, is.links)
    none fault.Hold = grind (arith, is.holds)
    none fault.Parent = λ has. grind (arith, under_root, is.tree)
    none fault.Depth = λ has.
        omega (arith, has.2, path_under_root has.0 (subst (λ (tree : List Parent). IsPath tree has.0) is.tree has.1))
    none fault.Mixed = λ has. grind (arith, is.tree)
    none fault.Childless = grind (arith, plain_leaf)
    none fault.Unattached = λ has. grind (arith, length-replicate, get_or-replicate, is.tree, is.attached, is.processes)
    none fault.Watched = λ has. elim has [
      | inl nobody ↦ absurd (true≢false (sym (watches 0 some) ∙ nobody 0))
      | inr stranger ↦ grind arith
    ]
      where
        watches : (p : ℕ) → p < n → set.contains plan.watched p ≡ true
        watches p below = grind (arith, nat_tests, is.watched p)
