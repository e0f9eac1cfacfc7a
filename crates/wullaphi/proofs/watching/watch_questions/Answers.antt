use Rattle.std.proofs.Common.{◌≡◌, Err, ap}
use Rattle.wcp_relay.proofs.Entries.{All-at}
use Rattle.wullaphi.specs.Questions.{CanBeAsked}
use Rattle.wullaphi.specs.declared.watch_fault.WatchFault.TheVariants as fault
use Rattle.wullaphi.proofs.watching.watch_questions.Goals as goal

pub returns-in-Err-clause-plan : goal.returns-in-Err-clause-plan
returns-in-Err-clause-plan g c = λ refused. (
  (λ same. (c.in-Err.ensures.err refused).0 (cc)),
  (λ is. let met = (c.in-Err.ensures.err refused).1 is in let refused_is : c.in-Err.refused ≡ refused = cc in
      ap (λ f. Err (fault.Plan f)) refused_is),
)

pub returns-clause-question : goal.returns-clause-question
returns-clause-question g c = λ question. (
  λ same. absurd (rw same at c.watch_claimed.ensures.fault),
  λ is. absurd (is.2.refused (All-at (CanBeAsked c.args.plan.now) c.args.questions.now question is.2.watched
      c.in_default-first_refused.ensures.none is.2.is_question)),
)
