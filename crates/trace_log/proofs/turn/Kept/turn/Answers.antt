use Rattle.trace_log.proofs.Turning.{read_at}
use Rattle.trace_log.proofs.turn.Kept.turn.Goals as goal

pub returns-clause-turn : goal.returns-clause-turn
returns-clause-turn c earlier kept =
    read_at c.args.form _ earlier c.args.at c.args.line.now c.turn_of.result c.turn_of.new.self c.if-at-form.false
    (c.turn_of.ensures.turn earlier kept)
