use Rattle.wcp_world.proofs.Words.{subst, state_of}
use Rattle.wcp_world.specs.Processes.{Loses}
use Rattle.wcp_world.proofs.WorldAfterStep.{may_lose, lose_answered, lose_refused}
use Rattle.wcp_world.proofs.detector.Detector.lose.Goals as goal

pub lose-requires-in-Ok : goal.lose-requires-in-Ok
lose-requires-in-Ok c =
    let (plan, steps, taken, stands) = c.requires in
    let loses =
    subst (λ r. Loses c.args.self.now.processes c.args.p r c.lose.new.self) c.in-Ok.is c.lose.ensures.answered in
    let may = may_lose plan steps taken (state_of c.args.self.now) stands c.args.p c.in-Ok.put c.lose.new.self loses in
    (plan, steps, stands.put, stands.handed, stands.transport, may.0, may.1)

pub returns-in-Ok-clause-answered : goal.returns-in-Ok-clause-answered
returns-in-Ok-clause-answered c plan steps taken stands =
    lose_answered plan steps taken
    (state_of c.args.self.now) stands c.args.p c.in-Ok.put c.lose.new.self c.lose-in-Ok.new.self
    (subst (λ r. Loses c.args.self.now.processes c.args.p r c.lose.new.self) c.in-Ok.is c.lose.ensures.answered)
    c.lose-in-Ok.ensures

pub returns-in-Err-clause-answered : goal.returns-in-Err-clause-answered
returns-in-Err-clause-answered c plan steps taken stands =
    let loses =
    subst (λ r. Loses c.args.self.now.processes c.args.p r c.lose.new.self) c.in-Err.is c.lose.ensures.answered in
    let same = rw c.in-Err.is at c.lose.ensures.refused in
    rw same
    (lose_refused plan steps taken (state_of c.args.self.now) stands c.args.p c.in-Err.why c.lose.new.self loses)
