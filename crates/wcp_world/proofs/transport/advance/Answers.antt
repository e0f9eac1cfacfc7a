use Rattle.wcp_world.proofs.Words.{arith, length-set, get_or_read, get_or-set_other}
use Rattle.wcp_world.proofs.AnsweredMoves.{with_first}
use Rattle.wcp_world.proofs.transport.advance.Goals as goal

pub returns-in-Ok-clause-moved : goal.returns-in-Ok-clause-moved
returns-in-Ok-clause-moved c = λ done. record {
  item = c.in-Some.item;
  left = c.pop.new.self.items;
  first = grind (arith, get_or_read, with_first, get_or-set_other, length-set);
  fits = grind (arith, get_or_read);
  moved = grind (arith, get_or_read, with_first, get_or-set_other, length-set);
}
