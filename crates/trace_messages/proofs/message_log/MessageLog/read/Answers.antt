use Rattle.std.proofs.Common.{◌∙◌, Err, ap}
use Rattle.trace_order.specs.Giving.{state_of}
use Rattle.trace_order.specs.State.{line_of}
use Rattle.trace_messages.proofs.Saying.{refused_read, refused_turn}
use Rattle.trace_messages.proofs.message_log.MessageLog.read.Goals as goal

pub returns-in-Err-clause-refused : goal.returns-in-Err-clause-refused
returns-in-Err-clause-refused c =
    refused_read c.in-Err.fault c.of_put.result (line_of c.args.self.now.order) c.args.number c.args.line.now
    c.in_ok-words.words c.of_put.ensures c.in_ok-words.ensures
    (λ second is. c.read.ensures.twice second (c.in-Err.is ∙ ap Err is))
    (λ second is. c.read.ensures.first_second second (c.in-Err.is ∙ ap Err is))

pub returns-in-Err-clause-turn : goal.returns-in-Err-clause-turn
returns-in-Err-clause-turn c =
    refused_turn c.in-Err.fault c.of_put.result (state_of c.args.self.now.order) (state_of c.read.new.self)
    c.args.number c.args.line.now c.in_ok-words.words c.of_put.ensures c.in_ok-words.ensures
    (λ second is. c.read.ensures.first_second second (c.in-Err.is ∙ ap Err is))
