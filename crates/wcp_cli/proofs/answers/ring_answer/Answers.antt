use Rattle.std.proofs.Common.{◌∙◌}
use Rattle.wcp_cli.proofs.RingText.{ring_is_printed}
use Rattle.wcp_cli.proofs.answers.ring_answer.Goals as goal

pub returns-clause-text : goal.returns-clause-text
returns-clause-text c =
    let ring = c.args.ring in
    let workload = c.in_ok-workload.workload in
    c.in_ok-workload_text.ensures.text
    ∙ ring_is_printed ring.procs ring.rounds ring.fault workload.plan workload.tasks.items c.requires.few
    c.in_ok-workload.ensures.plan c.in_ok-workload.ensures.tasks
