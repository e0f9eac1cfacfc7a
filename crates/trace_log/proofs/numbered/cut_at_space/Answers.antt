use Rattle.trace_log.proofs.Words.{arith}
use Rattle.trace_log.proofs.Texts.{parts_cut}
use Rattle.trace_log.proofs.numbered.cut_at_space.Goals as goal

pub returns : goal.returns
returns c = parts_cut 32 c.args.text.now c.split_once.result (omega arith) c.split_once.ensures.cases
