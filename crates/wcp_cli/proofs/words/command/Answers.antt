use Rattle.wcp_cli.proofs.Imports.{rules, ◌≡◌, ◌∙◌, ap₂, refl, IfOk-weaker, app_of, with_subcommand, named}
use Rattle.wcp_cli.proofs.words.command.Goals as goal

pub returns : goal.returns
returns c =
    let start_is : app_of c.after_help-named.result ≡ named = search rules in
    let with_single = c.in_ok-with_single.ensures ∙ ap₂ with_subcommand start_is refl in
    let with_run = c.in_ok-with_run.ensures ∙ ap₂ with_subcommand with_single refl in
    let with_replay = c.in_ok-with_replay.ensures ∙ ap₂ with_subcommand with_run refl in
    IfOk-weaker c.with_ring.result _ _ (λ r adds. adds ∙ ap₂ with_subcommand with_replay refl) c.with_ring.ensures
