use Rattle.std.proofs.Common.{sym, ◌∙◌, arith}
use Rattle.wcp_c.proofs.SpentTags.{spent_beyond}
use Rattle.wcp_c.proofs.spent.is_spent.Goals as goal

pub returns-then-tagged-len : goal.returns-then-tagged-len
returns-then-tagged-len c = λ _. spent_beyond c.args.checker.now _ c.args.tagged.now (sym c.requires ∙ c.in-Found.is)
    (omega (arith, c.if-tagged-len.true, c.len.ensures.value))
