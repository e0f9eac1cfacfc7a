use Rattle.wcp_unseen.proofs.Seeing.{observed_in, other, other_satisfies}
use Rattle.wcp_unseen.proofs.unseen_order_law.Goals as goal

pub returns : goal.returns
returns c = λ n watched seen whole is cut satisfying. (
  other seen whole is n watched cut satisfying,
  other_satisfies seen whole is n watched cut satisfying,
  observed_in seen whole is n watched cut satisfying,
)
