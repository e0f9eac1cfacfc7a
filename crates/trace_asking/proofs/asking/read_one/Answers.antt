use Rattle.trace_asking.proofs.Words.{refl}
use Rattle.trace_source.specs.Story.{GivesNext}
use Rattle.trace_log.specs.Turns.{seen_logged}
use Rattle.trace_detect.proofs.Detecting.{is_last, never_none}
use Rattle.trace_asking.proofs.Questions.{all_stop, hands_all}
use Rattle.trace_asking.proofs.asking.read_one.Goals as goal

pub returns-in_err-advance-clause-reads : goal.returns-in_err-advance-clause-reads
returns-in_err-advance-clause-reads g c whole questions before read are =
    let story = g.S.Source.story whole in
    hands_all story questions before c.args.asked.now.items c.args.asked.now.items c.advance.new.self _ _
    c.from_residual.ensures (all_stop story questions before (g.S.Source.last c.advance.new.self) c.advance.new.self
    c.in_err-advance.field-0.0 c.args.asked.now.items (c.in_err-advance.ensures whole before read) are)

pub returns-then-not-branch-clause-reads : goal.returns-then-not-branch-clause-reads
returns-then-not-branch-clause-reads g c whole questions before read are =
    (rw c.if-not-branch.true at (c.in_ok-advance.ensures whole before read), refl)

pub unreachable-requires : goal.unreachable-requires
unreachable-requires g c =
    let given = c.requires in
    let story = g.S.Source.story given.whole in
    never_none (λ one. GivesNext story given.before one c.advance.new.self) c.event.result _
    c.event.ensures c.in_default.is
    (rw c.if-not-branch.false at (c.in_ok-advance.ensures given.whole given.before given.gave))

pub hear_and_take-requires : goal.hear_and_take-requires
hear_and_take-requires g c =
    let given = c.requires in
    let story = g.S.Source.story given.whole in
    let reads = is_last (λ one. GivesNext story given.before one c.advance.new.self)
    c.event.result _ c.in-Some.logged c.event.ensures c.in-Some.is
    (rw c.if-not-branch.false at (c.in_ok-advance.ensures given.whole given.before given.gave)) in
    record {
      questions = given.questions;
      before = given.before;
      are = given.are;
      follows = reads.follows;
      few = given.few;
    }

pub returns-clause-reads : goal.returns-clause-reads
returns-clause-reads g c whole questions before read are =
    let story = g.S.Source.story whole in
    let reads = is_last (λ one. GivesNext story before one c.advance.new.self) c.event.result _
    c.in-Some.logged c.event.ensures c.in-Some.is
    (rw c.if-not-branch.false at (c.in_ok-advance.ensures whole before read)) in (
      record {
        one = seen_logged c.in-Some.logged;
        gives = reads;
        takes = c.in_ok-hear_and_take.ensures.takes questions before are reads.follows;
      },
      c.in_ok-hear_and_take.ensures.answered,
    )
