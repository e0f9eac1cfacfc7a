use Rattle.example_pool.proofs.Words.{◌≡◌, ◌*◌, List, [], length, ap, ◌∙◌, arith, NothingYet}
use Rattle.example_pool.specs.declared.dispatcher.Partner.{Partner}
use Rattle.example_pool.proofs.dispatcher.Dispatcher.run.Goals as goal

pub run_rounds-requires-clause-at_work : goal.run_rounds-requires-clause-at_work
run_rounds-requires-clause-at_work g c = record { log = []; is_log = NothingYet; stands = c.requires }

pub returns : goal.returns
returns g c =
    let done = c.in_ok-run_rounds.ensures in
    let list : c.deref.result.now ≡ c.args.self.partners = grind (arith, c.into_list-partners.ensures.list) in
    record {
      jobs = done.answered ∙ ap (λ (partners : List Partner). c.args.self.rounds * length partners) list;
      log = done.at_work.log;
      is_log = rw (done.answered, done.unanswered, list) at done.at_work.is_log;
      stands = done.at_work.stands;
    }
