use Rattle.std.proofs.Common.{arith}
use Rattle.wcp_saved.proofs.Marks.{numbers_back, zeros_behind}
use Rattle.wcp_saved.proofs.reading.numbers_of.Goals as goal

pub returns-clause-value : goal.returns-clause-value
returns-clause-value c = λ small. numbers_back c.loop-p.numbers c.args.words.now (omega (
  arith,
  c.loop-p.invariant.long,
))
    small (λ k within. c.loop-p.invariant.done k (omega arith))

pub returns-clause-behind : goal.returns-clause-behind
returns-clause-behind c = zeros_behind c.loop-p.numbers _ (λ k past. c.loop-p.invariant.left k (omega arith))
