use Rattle.example_pool.proofs.Words.{◌≡◌, [], ◌++◌, refl, subst, ◌∙◌, arith, IsAnswering, NoJob, OneMore, calls_for}
use Rattle.example_pool.proofs.replica.Replica.run.Goals as goal

pub loop-init : goal.loop-init
loop-init g c = record { answering = record { log = []; is_log = NoJob; stands = c.requires }; jobs = refl }

pub loop-preserved : goal.loop-preserved
loop-preserved g c =
    let was = c.loop.invariant in
    let more = c.in_ok-answer.ensures in
    record {
      answering = record {
        log = was.answering.log ++ calls_for more.stamp;
        is_log = rw more.same (OneMore more.stamp more.whole was.answering.is_log);
        stands = more.stands was.answering.log was.answering.stands;
      };
      jobs = omega (arith, was.jobs);
    }

pub returns : goal.returns
returns g c =
    let done = c.loop.invariant in
    let all : c.loop.counter ≡ c.args.self.rounds = omega arith in
    let answering = subst (λ jobs. IsAnswering jobs c.loop.probe) all done.answering in
    record { jobs = done.jobs ∙ all; log = answering.log; is_log = answering.is_log; stands = answering.stands }
