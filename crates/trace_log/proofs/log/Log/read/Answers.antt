use Rattle.std.proofs.Common.{◌∙◌, refl, arith}
use Rattle.trace_log.proofs.Turning.{reads_turn, keeps_half, is_some-map}
use Rattle.trace_log.proofs.log.Log.read.Goals as goal

pub returns-in-Ok-clause-reads : goal.returns-in-Ok-clause-reads
returns-in-Ok-clause-reads c form so_far read =
    let is = c.in-Ok.ensures.turn so_far.events (keeps_half form so_far c.args.self.now read) in (
      reads_turn form so_far c.args.self.now _ c.args.line.now c.in-Ok.turned read (omega arith) is refl refl refl refl,
      c.is_some.ensures ∙ is_some-map _ c.in-Ok.turned.ended,
    )
