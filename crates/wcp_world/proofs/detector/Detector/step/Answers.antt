use Rattle.wcp_world.proofs.Words.{refl, arith, state_of}
use Rattle.wcp_model.specs.declared.step.Step.TheVariants as step
use Rattle.wcp_world.proofs.WorldAfterStep.{event_answered, move_answered, pending_is, sends}
use Rattle.wcp_world.proofs.detector.Detector.step.Goals as goal

pub returns-in-Observe-clause-answered : goal.returns-in-Observe-clause-answered
returns-in-Observe-clause-answered c = rw c.in-Observe.is (λ plan steps taken stands. event_answered plan steps taken
    (state_of c.args.self.now) stands (step.Observe c.in-Observe.p c.in-Observe.holds) c.observe.result
    c.observe.new.self refl refl refl refl (λ e. e) c.observe.ensures.answered)

pub returns-in-Send-clause-answered : goal.returns-in-Send-clause-answered
returns-in-Send-clause-answered c = rw c.in-Send.is
    (sends (state_of c.args.self.now) c.in-Send.p c.in-Send.to c.send.result c.send.new.self c.send.ensures.answered)

pub returns-in-Recv-clause-answered : goal.returns-in-Recv-clause-answered
returns-in-Recv-clause-answered c = rw c.in-Recv.is (λ plan steps taken stands. event_answered plan steps taken
    (state_of c.args.self.now) stands (step.Recv c.in-Recv.p c.in-Recv.message) c.receive.result c.receive.new.self refl
    refl refl (rw (pending_is plan steps taken (state_of c.args.self.now) stands c.in-Recv.p) refl)
    (λ e. e) c.receive.ensures.answered)

pub returns-in-Close-clause-answered : goal.returns-in-Close-clause-answered
returns-in-Close-clause-answered c = rw c.in-Close.is (λ plan steps taken stands. event_answered plan steps taken
    (state_of c.args.self.now) stands (step.Close c.in-Close.p) c.close.result c.close.new.self refl refl refl
    (rw (pending_is plan steps taken (state_of c.args.self.now) stands c.in-Close.p) refl)
    (λ e. e) c.close.ensures.answered)

pub returns-in-Admit-clause-answered : goal.returns-in-Admit-clause-answered
returns-in-Admit-clause-answered c plan steps taken stands =
    move_answered plan steps taken (state_of c.args.self.now) stands c.args.step c.convey.result c.convey.new.self
    (grind arith) c.convey.ensures.answered

pub returns-in-Put-clause-answered : goal.returns-in-Put-clause-answered
returns-in-Put-clause-answered c = rw c.in-Put.is c.put.ensures.answered

pub returns-in-Check-clause-answered : goal.returns-in-Check-clause-answered
returns-in-Check-clause-answered c = rw c.in-Check.is c.check.ensures.answered

pub returns-in-Dropped-clause-answered : goal.returns-in-Dropped-clause-answered
returns-in-Dropped-clause-answered c = rw c.in-Dropped.is c.lose.ensures.answered
