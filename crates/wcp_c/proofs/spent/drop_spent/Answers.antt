use Rattle.std.proofs.Common.{All, vec_len, refl, inl, inr, subst, ◌∙◌, arith, rules}
use Rattle.std.proofs.lemmas.List.{get_or_default}
use Rattle.wcp_c.specs.Questions.{checkers_of}
use Rattle.wcp_c.specs.Tags.{IsSpent}
use Rattle.wcp_c.proofs.Swapped.{IsSwapped, swapped_right, swapped_kept}
use Rattle.wcp_c.proofs.spent.drop_spent.Goals as goal

pub tags-preserved-then-is_spent_for_all : goal.tags-preserved-then-is_spent_for_all
tags-preserved-then-is_spent_for_all c =
    let old = c.tags.tags.items in
    let new = c.swap_remove.new.self.items in
    let n = vec_len c.tags.tags in
    let swapped : IsSwapped old new n c.tags.place = record {
      count = search rules;
      within = omega (arith, c.tags-test.true, c.len.ensures);
      shorter = search rules;
      last = c.swap_remove.ensures.by_index.0;
      others = c.swap_remove.ensures.by_index.1;
    } in
    record {
      right = λ tagged has. c.tags.invariant.right tagged (swapped_right old new n c.tags.place tagged swapped has);
      kept = λ tagged had. elim (c.tags.invariant.kept tagged had) [
        | inl there ↦ elim (swapped_kept old new n c.tags.place tagged swapped there) [
          | inl still ↦ inl still
          | inr removed ↦ inr (subst (λ it. All (λ checker. IsSpent checker it) (checkers_of c.args.questions.now))
              (c.index.ensures
              ∙ get_or_default old c.tags.place c.index.result.now tagged (omega (arith, swapped.within, swapped.count))
              ∙ removed) (c.if-is_spent_for_all.ensures refl))
        ]
        | inr spent ↦ inr spent
      ];
    }
