use Rattle.wcp_c.proofs.FewQuestions.{few_pairs}
use Rattle.wcp_c.proofs.asked.boxed_pairs.Goals as goal

pub of-requires : goal.of-requires
of-requires c = few_pairs c.in_ok-panel.panel c.args.processes c.in_ok-panel.ensures.questions c.requires.few
