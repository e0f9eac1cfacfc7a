use Rattle.wcp_model.proofs.Words.{NumberSet, Flag, Intervals, IsAtOrBelow, ◌≡◌, ℕ, List, ◌++◌, ap, ◌∙◌, arith}
use Rattle.wcp_model.proofs.Words.{flat_map-append, filter-append, Computation, member, minimum, IsSatisfyingCut}
use Rattle.wcp_model.proofs.Words.{IsAccepted, Answered, accepted, is_event, computation}
use Rattle.wcp_model.specs.Growth.{GrowsInto, GrowthLaw, EarlyFindLaw}
use Rattle.wcp_model.proofs.AcceptedReplies.{replies_accepted}
use Rattle.wcp_model.proofs.CutLaws.{interval_of-minimum, minimum_is_satisfying}
use Rattle.wcp_model.proofs.EmissionPrefixes.{emissions_grow}
use Rattle.wcp_model.proofs.Reached.{true_state_exists}
use Rattle.wcp_model.proofs.Growth.{before_grows, before_shrinks, true_state_grows, true_state_shrinks}

-- an accepted computation grew from each of its fronts
pub accepted_grows : (n : ℕ) (watched : NumberSet) (flag : Flag) (c e : Computation) → IsAccepted (c ++ e)
    → GrowsInto n watched flag c (c ++ e)
accepted_grows n watched flag c e accepted = search (emissions_grow, before_grows, before_shrinks, arith)

-- the computation of a longer history is that of its front and more
pub computation_append : (history more : List Answered)
    → computation (accepted (history ++ more)) ≡ computation (accepted history) ++ computation (accepted more)
computation_append history more = ap computation (flat_map-append _ history more)
    ∙ filter-append is_event (accepted history) (accepted more)

-- the growth law
pub growth_holds : GrowthLaw
growth_holds plan history more are =
    search (arith, replies_accepted plan (history ++ more) are, accepted_grows, computation_append)

-- a satisfying cut stays one
pub satisfying_grows : (n : ℕ) (watched : NumberSet) (c e : Computation) (cut : Intervals)
    → IsSatisfyingCut n watched c cut → IsSatisfyingCut n watched (c ++ e) cut
satisfying_grows n watched c e cut is = grind (arith, true_state_exists, before_shrinks, true_state_grows)

-- and one that lies at or below it was one before
satisfying_below : (n : ℕ) (watched : NumberSet) (c e : Computation) (cut lower : Intervals)
    → IsSatisfyingCut n watched c cut → IsAtOrBelow n watched lower cut → IsSatisfyingCut n watched (c ++ e) lower
    → IsSatisfyingCut n watched c lower
satisfying_below n watched c e cut lower is below lower_is = record {
  members = lower_is.members;
  consistent = λ p q p_is q_is apart before. grind (arith, before_grows c e (member lower p) before);
  true_states = grind (arith, true_state_exists, true_state_shrinks);
}

-- the early-find law
pub early_find_holds : EarlyFindLaw
early_find_holds n watched c more cut least = record {
  one = in_whole;
  below = λ other other_is p p_is.
      let both = interval_of-minimum n watched cut other in_whole.members other_is.members in
      let lower = satisfying_below n watched c more cut (minimum cut other) least.one
      (λ q q_is. omega (arith, both q q_is))
      (minimum_is_satisfying n watched (c ++ more) cut other in_whole other_is) in
      omega (arith, least.below (minimum cut other) lower p p_is, both p p_is);
}
  where
    in_whole : IsSatisfyingCut n watched (c ++ more) cut
    in_whole = satisfying_grows n watched c more cut least.one
