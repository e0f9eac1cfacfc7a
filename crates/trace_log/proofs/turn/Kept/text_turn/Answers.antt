use Rattle.trace_log.proofs.Words.{ap, sym, ◌∙◌, Ok, [], string_bytes, ◌>>=◌}
use Rattle.trace_log.specs.Kept.{stamp_at}
use Rattle.trace_log.specs.Log.{whole}
use Rattle.trace_log.proofs.Keeps.{keeps-text}
use Rattle.trace_log.proofs.Turning.{event_turn}
use Rattle.trace_log.proofs.turn.Kept.text_turn.Goals as goal

pub returns-clause-turn : goal.returns-clause-turn
returns-clause-turn c form earlier kept =
    let hosts = c.args.self.now.hosts in
    let stamp = stamp_at hosts c.args.host in
    let said = c.in_ok-text.ensures ∙ ap Ok (sym c.in_ok-put.ensures) in (
      ap (λ r. r >>= λ text. Ok (event_turn c.args.at (whole stamp text))) said,
      keeps-text hosts earlier stamp [] (string_bytes c.put.new.said) kept,
    )
