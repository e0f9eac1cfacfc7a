use Rattle.wcp_unseen.proofs.Seeing.{other, other_satisfies}
use Rattle.wcp_unseen.proofs.unseen_nothing_law.Goals as goal

pub returns : goal.returns
returns c = λ n watched seen whole is nothing. (
  λ cut satisfying. nothing.0 (other seen whole is n watched cut satisfying)
      (other_satisfies seen whole is n watched cut satisfying),
  tt,
)
