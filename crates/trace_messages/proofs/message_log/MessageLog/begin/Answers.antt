use Rattle.trace_order.specs.Giving.{state_of}
use Rattle.trace_messages.proofs.Turns.{begun_fault, begun_says}
use Rattle.trace_messages.proofs.message_log.MessageLog.begin.Goals as goal

pub returns-clause-again : goal.returns-clause-again
returns-clause-again c = λ goes_on.
    begun_says c.read.result c.args.self.now c.read.new.self c.args.number c.args.line.now goes_on c.if-self.false
    c.read.ensures.goes_on c.read.ensures.begun c.read.ensures.stays c.read.ensures.same c.read.ensures.turn

pub returns-clause-fault : goal.returns-clause-fault
returns-clause-fault c = λ goes_on.
    begun_fault c.read.result c.args.self.now c.args.number c.args.line.now (state_of c.read.new.self.order) goes_on
    c.if-self.false c.read.ensures.turn
