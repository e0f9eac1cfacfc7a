use Rattle.wcp_model.proofs.Words.{ℕ, List, ◌∷◌, refl, subst, arith, false≢true, Parent, IsPath}
use Rattle.wcp_model.proofs.PlanPaths.{no_deep_path}
use Rattle.wcp_model.proofs.plan.Plan.has_deep_path.Goals as goal

pub returns-then-path_length-gt-MAX_PATH : goal.returns-then-path_length-gt-MAX_PATH
returns-then-path_length-gt-MAX_PATH c =
    let found = c.path_length.ensures.path in
    let path : List ℕ = c.loop-relay.relay ∷ found.0 in (
      λ e. (
        path,
        subst (λ (parents : List Parent). IsPath parents
            path) c.deref.ensures.value found.1,
        omega (arith, found.2),
      ),
      λ has. refl,
    )

pub returns : goal.returns
returns c = (
  λ e. absurd (false≢true e),
  λ has. absurd (no_deep_path _ _ has.0
      (omega (arith, c.args.self.now.parents.ok)) c.loop-relay.invariant has.1 has.2),
)
