use Rattle.example_pool.proofs.Words.{◌≡◌, true, [], ◌∷◌, ◌++◌, ap, ◌∙◌, Observed, ProbeSetup, Sent, GaveOut}
use Rattle.example_pool.proofs.Words.{processes_of}
use Rattle.example_pool.proofs.MadeCalls.{two_calls}
use Rattle.example_pool.proofs.dispatcher.Desk.give_out.Goals as goal

pub returns-in-Ok-send-clause-at_work : goal.returns-in-Ok-send-clause-at_work
returns-in-Ok-send-clause-at_work g c = λ most below was.
    let same : processes_of c.observe.new.self ≡ processes_of c.args.probe.now =
    ap (λ (made : ProbeSetup). made.processes) (c.observe.ensures.same ∙ c.in-Ok.ensures.same) in
    record {
      log = was.log ++ Sent ∷ Observed true ∷ [];
      is_log = rw same (GaveOut below was.is_log);
      stands =
          two_calls _ _ _ Sent (Observed true) c.in-Ok.ensures.accepted c.observe.ensures.accepted was.log was.stands;
    }
