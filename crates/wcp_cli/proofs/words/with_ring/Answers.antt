use Rattle.wcp_cli.proofs.Imports.{rules, ◌∙◌, ap, IfOk-weaker, app_of, with_subcommand}
use Rattle.wcp_cli.proofs.words.with_ring.Goals as goal

pub returns : goal.returns
returns c =
    IfOk-weaker c.subcommand.result _ _ (λ r adds. adds.shape (search rules)
    ∙ ap (with_subcommand (app_of c.args.command)) c.in_ok-ring.ensures.shape) c.subcommand.ensures
