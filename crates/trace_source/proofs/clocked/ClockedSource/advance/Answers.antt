use Rattle.trace_source.proofs.Given.{advances}
use Rattle.trace_source.proofs.clocked.ClockedSource.advance.Goals as goal

pub returns : goal.returns
returns g c whole before gave =
    advances g.I.Read.remaining whole before
    (record { events = c.next_event.new.self; input = record c.args.self.now.input { now = c.next_event.new.input } })
    c.next_event.result gave.lent (c.next_event.ensures.reads whole.form whole.bytes before gave.read)
