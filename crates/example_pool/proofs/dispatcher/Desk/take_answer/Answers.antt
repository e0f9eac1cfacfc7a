use Rattle.example_pool.proofs.Words.{◌≡◌, ◌+◌, ◌-◌, nat_lt, [], ◌∷◌, ◌++◌, ap, ◌∙◌, subst, arith, Observed, ProbeSetup}
use Rattle.example_pool.proofs.Words.{Received, seal_of, IsDispatcherLog, WasAnswered, processes_of}
use Rattle.example_pool.proofs.MadeCalls.{two_calls, whole_stamp}
use Rattle.example_pool.proofs.dispatcher.Desk.take_answer.Goals as goal

pub returns-clause-at_work : goal.returns-clause-at_work
returns-clause-at_work g c = λ most was.
    let start = c.args.self.now in
    let probe = c.args.probe.now in
    let left = start.unanswered - 1 in
    let one_less : start.unanswered ≡ left + 1 = omega (arith, c.requires.some) in
    let stamp = (seal_of c.in-Ok.stamped).clock in
    let whole = whole_stamp probe.core (seal_of c.in-Ok.stamped) c.in-Ok-receive.ensures.first in
    let same : processes_of c.observe.new.self ≡ processes_of probe =
    ap (λ (made : ProbeSetup). made.processes) (c.observe.ensures.same ∙ c.in-Ok-receive.ensures.same) in
    record {
      log = was.log ++ Received stamp ∷ Observed (nat_lt 0 left) ∷ [];
      is_log = rw (same, c.with-self.ensures.jobs) (WasAnswered stamp whole
          (subst (λ k. IsDispatcherLog (processes_of probe) most start.answered.jobs k was.log) one_less was.is_log));
      stands = two_calls _ _ _ (Received stamp)
          (Observed (nat_lt 0 left)) c.in-Ok-receive.ensures.accepted c.observe.ensures.accepted was.log was.stands;
    }
