use Rattle.std.proofs.Common.{◌∙◌}
use Rattle.wcp_c.proofs.single.answer_to.Goals as goal

pub returns-clause-answer : goal.returns-clause-answer
returns-clause-answer c =
    let workload = c.in_ok-read.read.workload in
    record {
      plan = workload.plan;
      tasks = workload.tasks.items;
      outcome = c.in_ok-outcome.outcome;
      spelled = c.in_ok-read.ensures.exact.spells;
      could_be_read = c.in_ok-read.ensures.could_be_read;
      right = c.in_ok-outcome.ensures;
      print = c.in_ok-report_text.ensures;
      status_is = c.from.ensures ∙ c.exit_status.ensures.value;
    }
