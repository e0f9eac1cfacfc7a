use Rattle.trace_log.proofs.Words.{◌≡◌, rules, Err, ap, sym, subst, true, false, value_view, string_bytes}
use Rattle.std.specs.Option.{IsSomeAnd}
use Rattle.json.specs.declared.error.Error.{Error}
use Rattle.json.specs.Strict.{HasUniqueKeys}
use Rattle.trace_log.specs.Kept.{KeepsEvent}
use Rattle.trace_log.proofs.Distinct.{distinct_names, names_stand_twice}
use Rattle.trace_log.proofs.Stamps.{event_parts}
use Rattle.trace_log.proofs.line.document_kept.Goals as goal

pub returns-in-Ok-clause-event : goal.returns-in-Ok-clause-event
returns-in-Ok-clause-event c earlier line read kept =
    subst (λ judged. KeepsEvent earlier judged c.json_kept.result c.json_kept.new.hosts (string_bytes
    c.json_kept.new.said))
    (sym (event_parts earlier line c.args.text.now (value_view c.in-Ok.value) true read c.in-Ok.ensures.ok
    (distinct_names _ c.in-Ok.ensures.unique)))
    (c.json_kept.ensures.event earlier kept)

pub returns-in-Ok-parse-clause-event : goal.returns-in-Ok-parse-clause-event
returns-in-Ok-parse-clause-event c earlier line read kept =
    let same : c.in-Err.error ≡ Error.DuplicateKey = search rules in
    subst (λ judged. KeepsEvent earlier judged c.json_kept-in-Ok-parse.result c.json_kept-in-Ok-parse.new.hosts
    (string_bytes c.json_kept-in-Ok-parse.new.said))
    (sym (event_parts earlier line c.args.text.now (value_view c.in-Ok-parse.value) false read
    c.in-Ok-parse.ensures.ok (names_stand_twice _
    (subst (λ o. IsSomeAnd o (λ j. HasUniqueKeys j → ⊥)) c.in-Ok-parse.ensures.ok
    (c.in-Err.ensures.duplicate (ap Err same))))))
    (c.json_kept-in-Ok-parse.ensures.event earlier kept)
