use Rattle.trace_log.proofs.Words.{seen_clock, subst, ap, ◌∙◌}
use Rattle.trace_log.specs.Look.{Looks}
use Rattle.trace_log.specs.Spelling.{clock_spelled}
use Rattle.trace_log.proofs.Renumbered.{beside_renumbered, text_renumbered}
use Rattle.trace_log.proofs.host.looks_at.Goals as goal

pub returns-then-is_plain : goal.returns-then-is_plain
returns-then-is_plain c is =
    let clock = seen_clock c.args.before.now in
    let next = c.look.new.next in
    let looked = subst (λ text. Looks text clock next) c.as_bytes.ensures.value (c.look.ensures is) in
    record {
      no_lower = looked.no_lower;
      is = λ some distinct plain. ap clock_spelled c.in-Text.is
          ∙ text_renumbered clock c.in-Text.text.now next looked some distinct (plain c.if-is_plain.true);
    }

pub returns-in-Members : goal.returns-in-Members
returns-in-Members c is =
    let looked = c.look_at.ensures is in
    record {
      no_lower = looked.no_lower;
      is = λ some distinct plain. ap clock_spelled c.in-Members.is ∙ looked.is;
    }

pub returns-then-is_plain-2 : goal.returns-then-is_plain-2
returns-then-is_plain-2 c is =
    let event = c.in-Beside.event in
    let clock = seen_clock c.args.before.now in
    let looked = c.look-then-is_plain-2.ensures is in
    record {
      no_lower = looked.no_lower;
      is = λ some distinct plain. ap clock_spelled c.in-Beside.is
          ∙ beside_renumbered clock event.line.now event.host.now event.place.now event.text.now
          c.look-then-is_plain-2.new.next event.spelled looked some distinct (plain c.if-is_plain-2.true);
    }
