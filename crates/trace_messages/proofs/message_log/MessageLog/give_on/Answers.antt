use Rattle.std.proofs.Common.{◌∙◌, ap}
use Rattle.trace_order.specs.Giving.{state_of}
use Rattle.trace_messages.specs.declared.message_log.MessageLog.{MessageLog}
use Rattle.trace_messages.specs.Said.{waits_in}
use Rattle.trace_messages.proofs.Saying.{gives_more, on_more}
use Rattle.trace_messages.proofs.message_log.MessageLog.give_on.Goals as goal

pub loop-preserved : goal.loop-preserved
loop-preserved c =
    let new = c.give_one.new.self in
    record {
      given = λ log given ordered.
          gives_more log given c.loop.self.order new.order (waits_in c.args.self.now) (waits_in c.loop.self)
          (waits_in new) c.in_ok-give_one.ensures.giving.names (c.loop.invariant.given log given ordered)
          (c.in_ok-give_one.ensures.given log _);
      giving = on_more (waits_in c.args.self.now) (waits_in c.loop.self) (waits_in new)
          (state_of c.args.self.now.order) (state_of c.loop.self.order) (state_of new.order) c.loop.invariant.giving
          c.in_ok-give_one.ensures.giving;
      rest = c.in_ok-give_one.ensures.rest
          ∙ ap (λ (l : MessageLog). record l { order = new.order; said = new.said; unsaid = new.unsaid })
          c.loop.invariant.rest;
    }

pub returns-clause-given : goal.returns-clause-given
returns-clause-given c = λ log given ordered.
    gives_more log given c.loop.self.order c.give_one.new.self.order (waits_in c.args.self.now) (waits_in c.loop.self)
    (waits_in c.give_one.new.self) c.in_ok-give_one.ensures.giving.names (c.loop.invariant.given log given ordered)
    (c.in_ok-give_one.ensures.given log _)
