use Rattle.std.proofs.Common.{ap}
use Rattle.trace_messages.specs.Said.{said_lines}
use Rattle.trace_messages.proofs.message_log.MessageLog.new.Goals as goal

pub returns-clause-says : goal.returns-clause-says
returns-clause-says c = ap (said_lines c.args.unsent 0) c.new.ensures.none
