use Rattle.std.proofs.Common.{◌∙◌, sym, subst}
use Rattle.wcp_c.specs.Masks.{AreSetsOf}
use Rattle.wcp_c.proofs.FewQuestions.{few_sets}
use Rattle.wcp_c.proofs.asked.boxed_sets.Goals as goal

pub of-requires : goal.of-requires
of-requires c = few_sets c.in_ok-panel.panel c.args.masks.now
    (subst (AreSetsOf c.args.masks.now) (sym (c.in_ok-panel.ensures.questions ∙ c.deref.ensures.value))
    c.in_ok-sets.ensures.sets)
    c.requires.not_too_many
