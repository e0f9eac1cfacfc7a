use Rattle.wcp_world.proofs.Words.{sym, ◌∙◌, subst, ReadsNext, state_of}
use Rattle.wcp_world.proofs.WorldAfterStep.{check_answered, may_take, check_of_nothing}
use Rattle.wcp_world.proofs.detector.Detector.check.Goals as goal

pub returns-in_default-clause-answered : goal.returns-in_default-clause-answered
returns-in_default-clause-answered c plan steps taken stands =
    check_of_nothing plan steps taken (state_of c.args.self.now) stands
    (subst (ReadsNext c.args.self.now.transport) c.in_default.is c.next.ensures.reads)

pub hand_over-requires : goal.hand_over-requires
hand_over-requires c =
    let (plan, steps, taken, stands) = c.requires in
    may_take plan steps taken (state_of c.args.self.now) stands c.in-Some.item
    (c.in-Some.ensures.reads plan steps stands.put stands.handed stands.transport)

pub returns-clause-answered : goal.returns-clause-answered
returns-clause-answered c plan steps taken stands =
    check_answered plan steps taken
    (state_of c.args.self.now) stands c.in-Some.item c.take_next.new.self c.hand_over.new.checker
    (c.in-Some.ensures.reads plan steps stands.put stands.handed stands.transport)
    (sym c.next.ensures.next ∙ c.in-Some.is) c.take_next.ensures c.in_ok-hand_over.ensures.taken
    c.hand_over.ensures.processes c.hand_over.ensures.watched
