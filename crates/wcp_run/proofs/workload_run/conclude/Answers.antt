use Rattle.wcp_run.proofs.Words.{Err, length, ap, IsReasonOf, run_reasons}
use Rattle.wcp_model.proofs.FirstReasons.{first_unique}
use Rattle.wcp_run.proofs.RunEnds.{few_ends, told_within, few_mailboxes, lanes_are, come, outcome_of_run}
use Rattle.wcp_run.proofs.workload_run.conclude.Goals as goal

pub fault_of_run-requires-clause-few : goal.fault_of_run-requires-clause-few
fault_of_run-requires-clause-few c = few_ends c.requires.2

pub fault_of_run-requires-clause-told : goal.fault_of_run-requires-clause-told
fault_of_run-requires-clause-told c = told_within c.requires.2

pub match_lanes-requires-clause-few : goal.match_lanes-requires-clause-few
match_lanes-requires-clause-few c = few_mailboxes c.requires.2 c.in_ok-probes.ensures

pub match_lanes-requires-clause-lanes : goal.match_lanes-requires-clause-lanes
match_lanes-requires-clause-lanes c = lanes_are c.requires.2 c.in_ok-probes.ensures

pub settle-requires : goal.settle-requires
settle-requires c = come c.requires.2 c.in_ok-probes.ensures

pub returns-in-Ok-clause-outcome : goal.returns-in-Ok-clause-outcome
returns-in-Ok-clause-outcome c = λ plan tasks run.
    outcome_of_run run c.in_ok-probes.ensures c.in_default-match_lanes.ensures.matched c.in-Ok.ensures.settled

pub returns-in-Some-clause-first : goal.returns-in-Some-clause-first
returns-in-Some-clause-first c = λ first is.
    ap Err (first_unique (IsReasonOf c.args.ends)
    (run_reasons (length c.args.ends.workers.items)) c.in-Some.fault first c.in-Some.ensures.first is)
