use Rattle.trace_log.proofs.Texts.{cut_once}
use Rattle.trace_log.proofs.stamp.split_host.Goals as goal

pub returns : goal.returns
returns c = cut_once c.args.text.now c.split_once.result c.split_once.ensures.cases
