use Rattle.json.specs.Json.{number}
use Rattle.trace_log.proofs.Objects.{digits_spelled}
use Rattle.trace_log.proofs.plain.is_word.Goals as goal

pub returns-else-is_literal : goal.returns-else-is_literal
returns-else-is_literal c is =
    (number c.args.word.now, λ gap is_gap. digits_spelled 1 gap c.args.word.now is_gap (c.is_numeral.ensures is))
