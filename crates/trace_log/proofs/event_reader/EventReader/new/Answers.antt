use Rattle.trace_log.proofs.ReadLines.{begins}
use Rattle.trace_log.proofs.event_reader.EventReader.new.Goals as goal

pub returns : goal.returns
returns c input = begins c.args.form input _ c.new-log.result c.in_ok-lines.ensures c.new-log.ensures
