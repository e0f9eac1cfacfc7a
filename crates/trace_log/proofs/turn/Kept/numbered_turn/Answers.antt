use Rattle.trace_log.proofs.Words.{◌∙◌, ap, subst, Ok, None}
use Rattle.trace_log.specs.declared.turn.LogLayout.TheVariants.{Lines}
use Rattle.trace_log.specs.Turns.{seen_says, IsTurnOf}
use Rattle.trace_log.proofs.NumberedTurns.{numbered_event, numbered_fault}
use Rattle.trace_log.proofs.turn.Kept.numbered_turn.Goals as goal

pub returns-in-Event-clause-turn : goal.returns-in-Event-clause-turn
returns-in-Event-clause-turn c earlier at kept =
    let one = c.in_ok-one.one in
    let said = c.in_ok-one.ensures ∙ ap (λ s. Ok (record { number = one.number; says = seen_says s })) c.in-Event.is in
    numbered_event earlier at one.number c.args.line.now c.in-Event.text.now c.event_turn.result c.event_turn.new.self
    said (subst (λ json. IsTurnOf Lines None earlier one.number json c.event_turn.result c.event_turn.new.self)
    c.as_bytes.ensures.value (c.event_turn.ensures.turn earlier kept))

pub returns-in-Fault-clause-turn : goal.returns-in-Fault-clause-turn
returns-in-Fault-clause-turn c earlier at kept =
    let one = c.in_ok-one.one in
    let said = c.in_ok-one.ensures ∙ ap (λ s. Ok (record { number = one.number; says = seen_says s })) c.in-Fault.is in
    numbered_fault earlier at one.number c.args.line.now _ said
