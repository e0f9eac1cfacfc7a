use Rattle.std.proofs.Common.{◌≡◌, ◌∙◌, List, ℕ, subst}
use Rattle.std.specs.Prelude.{IfOk}
use Rattle.wcp_saved.specs.Spelling.{bytes_of, sealed}
use Rattle.wcp_saved.proofs.saved.spell.Goals as goal

pub returns-clause-spelled : goal.returns-clause-spelled
returns-clause-spelled c = subst (λ (words : List ℕ). IfOk c.seal.result (λ bytes. bytes.items ≡ sealed (bytes_of
    words)))
    (c.deref.ensures.value ∙ c.in_ok-words.ensures.spelled) c.seal.ensures
