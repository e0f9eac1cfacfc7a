use Rattle.example_pool.proofs.Words.{true, ap, ◌∙◌, Observed, ProbeSetup, Received, Sent, seal_of}
use Rattle.example_pool.proofs.MadeCalls.{two_calls, third_call, whole_stamp}
use Rattle.example_pool.proofs.replica.answer_one.Goals as goal

pub returns-in-Ok-send : goal.returns-in-Ok-send
returns-in-Ok-send g c =
    let stamp = (seal_of c.args.stamped).clock in
    record {
      stamp = stamp;
      whole = whole_stamp c.args.probe.now.core (seal_of c.args.stamped) c.in-Ok.ensures.first;
      same = ap (λ (made : ProbeSetup). made.processes)
          (c.in-Ok-stamp.ensures.same ∙ c.observe.ensures.same ∙ c.in-Ok.ensures.same);
      stands = third_call _ _ _ (Received stamp) (Observed true) Sent
          (two_calls _ _ _ (Received stamp) (Observed true) c.in-Ok.ensures.accepted c.observe.ensures.accepted)
          c.in-Ok-stamp.ensures.accepted;
    }
