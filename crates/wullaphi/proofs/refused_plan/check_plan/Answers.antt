use Rattle.std.proofs.Common.{◌≡◌, ℕ, ◌<◌, ◌∙◌, Err, Option, None, Some, vec_len, refl, ap, subst, arith}
use Rattle.wcp_model.specs.declared.plan.Plan.{Plan}
use Rattle.wcp_model.specs.declared.plan.PlanFault.{PlanFault}
use Rattle.wullaphi.specs.Refused.{IsPlaceOf, IsRefusalOf}
use Rattle.wullaphi.specs.declared.refused_plan.RefusedPlan.{RefusedPlan}
use Rattle.wullaphi.proofs.refused_plan.check_plan.Goals as goal

-- the refusal of a plan with this fault at this place
abbrev refusal : Plan → PlanFault → Option ℕ → RefusedPlan
refusal plan fault place = record {
  fault = fault;
  n = plan.n;
  cap = plan.cap;
  hold = plan.hold;
  relays = vec_len plan.parents;
  attached = vec_len plan.attach;
  place = place;
}

-- a fault has one first place
one_place : (plan : Plan) (fault : PlanFault) (one other : Option ℕ) → IsPlaceOf plan fault one
    → IsPlaceOf plan fault other → one ≡ other
one_place plan fault None None none none' = refl
one_place plan fault None (Some q) none at = absurd (none q at.0 at.1)
one_place plan fault (Some p) None at none = absurd (none p at.0 at.1)
one_place plan fault (Some p) (Some q) at at' =
    let not_below : ¬ (p < q) = λ below. at'.2 p below at.1 in
    let not_above : ¬ (q < p) = λ above. at.2 q above at'.1 in
    ap Some (omega (arith, not_below, not_above))

-- there is one refusal for one fault
one_refusal : (plan : Plan) (fault : PlanFault) (place : Option ℕ) (refused : RefusedPlan) → fault ≡ refused.fault
    → IsPlaceOf plan fault place → IsRefusalOf plan refused → refusal plan fault place ≡ refused
one_refusal plan fault place refused same at is =
    let its = subst (λ f. IsPlaceOf plan f place) same at in
    let there : place ≡ refused.place = one_place plan refused.fault place refused.place its is.place in
    let all : refusal plan refused.fault refused.place ≡ refused =
    rw (← is.n, ← is.cap, ← is.hold, ← is.relays, ← is.attached) refl in
    ap (λ f. refusal plan f place) same ∙ ap (refusal plan refused.fault) there ∙ all

pub returns-in-Err-clause-err : goal.returns-in-Err-clause-err
returns-in-Err-clause-err c = λ refused. rw (c.len.ensures, c.len-in-Err.ensures) (
  (λ same.
      let plan = c.args.plan.now in
      let is : refusal plan c.in-Err.fault c.place_of.result ≡ refused = cc in
      subst (IsRefusalOf plan) is (record {
        first = (c.in-Err.ensures.err c.in-Err.fault).0 (cc);
        n = refl;
        cap = refl;
        hold = refl;
        relays = refl;
        attached = refl;
        place = c.place_of.ensures;
      })),
  (λ is.
      let met = (c.in-Err.ensures.err refused.fault).1 is.first in
      let same : c.in-Err.fault ≡ refused.fault = cc in
      ap Err (one_refusal c.args.plan.now c.in-Err.fault c.place_of.result refused same c.place_of.ensures is)),
)
