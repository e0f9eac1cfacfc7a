use Rattle.wcp_model.proofs.Words.{Contains, refl, sym, subst, arith, tree_faults}
use Rattle.wcp_model.proofs.plan.Plan.has_fault.Goals as goal

pub has_childless_relay-requires : goal.has_childless_relay-requires
has_childless_relay-requires c =
    c.requires (subst (Contains tree_faults) (sym c.in-Childless.is) (2, omega arith, refl))
