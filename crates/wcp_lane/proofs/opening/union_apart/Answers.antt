use Rattle.wcp_lane.proofs.Words.{◌≡◌, ◌+◌, ◌++◌, ◌∷◌, [], true≢false, take, refl, sym, ◌∙◌, subst, arith, nat_cmp}
use Rattle.wcp_lane.proofs.Words.{nat_cmp_total, both_ways, common_steps, take_all, list_any_at, ShareNone, AreApart}
use Rattle.wcp_lane.proofs.Words.{Numbers}
use Rattle.std.specs.FinSet as set
use Rattle.std.proofs.lemmas.List.Quantifiers.{all_pairs_push}
use Rattle.wcp_lane.proofs.Sets.{none_before}
use Rattle.wcp_lane.proofs.opening.union_apart.Goals as goal

pub loop-numbers-init : goal.loop-numbers-init
loop-numbers-init c = record {
  among = λ p. rw (c.none-all.ensures) (set.contains-empty nat_cmp p);
  apart = λ i j d before none. absurd (omega arith);
  within = λ k d none. absurd (omega arith);
}

pub returns-then-meets-clause-apart : goal.returns-then-meets-clause-apart
returns-then-meets-clause-apart c = (
  (λ e. absurd (true≢false (sym e))),
  (λ apart.
      let (p, seen, own) = c.meets.ensures.0 c.if-meets.true in
      absurd (both_ways _ (none_before _ _ _ apart c.loop-numbers-test.true c.numbers-item.is p own)
      (sym (c.loop-numbers.invariant.among p) ∙ seen))),
)

pub loop-numbers-preserved : goal.loop-numbers-preserved
loop-numbers-preserved c =
    let numbers = c.numbers-item.result in
    let more : take (c.loop-numbers.numbers-index + 1) c.args.member_sets.now
    ≡ take c.loop-numbers.numbers-index c.args.member_sets.now ++ numbers ∷ [] = grind (arith, common_steps) in
    record {
      among = λ p. grind (arith, common_steps, set.contains-union nat_cmp_total, c.loop-numbers.invariant.among p);
      apart = rw more (all_pairs_push ShareNone _ numbers c.loop-numbers.invariant.apart (λ i d below p first second.
          both_ways _ c.if-meets.false (c.meets.ensures.1 (
            p,
            c.loop-numbers.invariant.among p ∙ list_any_at (λ (s : Numbers). set.contains s p) _ i d below first,
            second,
          ))));
      within = grind (arith, common_steps);
    }

pub returns-clause-apart : goal.returns-clause-apart
returns-clause-apart c =
    ((λ _. subst AreApart (take_all _ _ c.loop-numbers-test.false) c.loop-numbers.invariant.apart), (λ _. refl))
