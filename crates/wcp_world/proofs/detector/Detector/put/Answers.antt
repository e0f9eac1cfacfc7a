use Rattle.wcp_world.proofs.Words.{Bool, sym, ◌∙◌, subst, arith, Puts, state_of}
use Rattle.wcp_world.proofs.WorldAfterStep.{put_answered, put_of_none, put_of_nothing, put_had_no_room}
use Rattle.wcp_world.proofs.detector.Detector.put.Goals as goal

pub returns-then-p-count-clause-answered : goal.returns-then-p-count-clause-answered
returns-then-p-count-clause-answered c plan steps taken stands =
    put_of_none plan steps taken (state_of c.args.self.now) stands c.args.p
    (omega (arith, c.if-p-count.true, c.count.ensures, stands.processes.members))

pub returns-in_default-clause-answered : goal.returns-in_default-clause-answered
returns-in_default-clause-answered c plan steps taken stands =
    put_of_nothing plan steps taken (state_of c.args.self.now) stands c.args.p
    (omega (arith, c.if-p-count.false, c.count.ensures, stands.processes.members))
    (sym c.pending.ensures ∙ c.in_default.is)

pub returns-then-not-put-clause-answered : goal.returns-then-not-put-clause-answered
returns-then-not-put-clause-answered c plan steps taken stands =
    put_had_no_room plan steps taken (state_of c.args.self.now) stands c.args.p c.in-Some.note c.put.new.self
    (sym c.pending.ensures ∙ c.in-Some.is)
    (subst (λ (room : Bool). Puts c.args.self.now.transport c.args.p c.in-Some.note room c.put.new.self)
    c.if-not-put.true c.put.ensures.answered) (c.put.ensures.full c.if-not-put.true)

pub returns-clause-answered : goal.returns-clause-answered
returns-clause-answered c plan steps taken stands =
    put_answered plan steps taken
    (state_of c.args.self.now) stands c.args.p c.in-Some.note c.was_put.new.self c.put.new.self
    (omega (arith, c.if-p-count.false, c.count.ensures, stands.processes.members))
    (sym c.pending.ensures ∙ c.in-Some.is)
    (subst (λ (room : Bool). Puts c.args.self.now.transport c.args.p c.in-Some.note room c.put.new.self)
    c.if-not-put.false c.put.ensures.answered) c.was_put.ensures
