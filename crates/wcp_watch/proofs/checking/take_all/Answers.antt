use Rattle.std.proofs.Common.{◌≡◌, true, rules, subst, sym, ◌∙◌}
use Rattle.wcp_queue.specs.Checker.{CheckerState}
use Rattle.wcp_watch.specs.CheckerEnds.{MayTellReport}
use Rattle.wcp_queue.specs.Panel.{question_at}
use Rattle.wcp_watch.proofs.CheckedItems.{all_ended, first_stands}
use Rattle.wcp_watch.proofs.checking.take_all.Goals as goal

pub returns-clause-ended : goal.returns-clause-ended
returns-clause-ended g c =
    let finished : c.loop.finished ≡ true = search rules in
    let up = c.loop.invariant.keeps_up in
    all_ended (question_at c.loop.panel 0) c.loop.taker.taken
    (first_stands c.loop.panel c.loop.taker.taken up.of_lane.some up.stands) (c.loop.invariant.finished finished)

pub tell_found-told-requires : goal.tell_found-told-requires
tell_found-told-requires g c =
    let old = c.loop.invariant in
    let step = c.take_bundle.ensures in
    subst (λ (first : CheckerState). MayTellReport g.A.Answers.allows first)
    (sym c.first-then-not-told.ensures.value)
    (c.requires.allowed c.take_bundle.new.taker c.take_bundle.new.panel
    (step.same.0.0 ∙ old.taker.0, step.same.0.1 ∙ old.taker.1)
    (record {
      processes = step.same.1.processes ∙ old.same.processes;
      watched = step.same.1.watched ∙ old.same.watched;
    }) step.keeps_up)
