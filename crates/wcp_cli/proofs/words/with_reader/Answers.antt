use Rattle.wcp_cli.proofs.Imports.{rules, ◌≡◌, ◌∙◌, ap, IfOk-weaker, app_of, shape_of, with_subcommand, new_shape}
use Rattle.wcp_cli.proofs.words.with_reader.Goals as goal

pub returns : goal.returns
returns c =
    let reader_is : shape_of c.about.result ≡ new_shape c.args.word.now = search rules in
    IfOk-weaker c.subcommand.result _ _ (λ r adds. adds.shape (search rules)
    ∙ ap (with_subcommand (app_of c.args.command)) reader_is) c.subcommand.ensures
