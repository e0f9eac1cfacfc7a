use Rattle.std.proofs.Common.{refl, arith}
use Rattle.wullaphi.proofs.questions.are_all_in.Goals as goal

pub returns : goal.returns
returns c = (
  λ _ p member. c.loop-p.invariant.all p
      (omega (arith, c.loop-p.invariant.few (omega arith) p member, c.loop-p-test.false)) member,
  λ _. refl,
)
