use Rattle.std.proofs.Common.{◌≡◌, ◌∙◌, ap, sym, option_map, Bor, Some}
use Rattle.trace_cli.specs.declared.spelling.LogSpelling.{LogSpelling}
use Rattle.trace_cli.specs.declared.spelling.LogSpelling.TheVariants.{Messages}
use Rattle.trace_cli.specs.Respelled.{read_as}
use Rattle.trace_rewrite.specs.Remaining.{said_of_bytes}
use Rattle.trace_rewrite.specs.Saying.{Saying}
use Rattle.trace_cli.proofs.respelled.LogReader.new.Goals as goal

pub returns-in_ok-reader-in-Some-Messages : goal.returns-in_ok-reader-in-Some-Messages
returns-in_ok-reader-in-Some-Messages g c =
    let known = g.I.Read.remaining c.args.input in
    let form = c.in-Some-Messages.form in
    let spelled : c.in-Some-Messages.field-0.now ≡ Messages c.in-Some-Messages.unsent form =
    rw c.in-Some-Messages.is at c.in-Some-Messages.field-0-is in
    c.in_ok-reader-in-Some-Messages.ensures
    ∙ ap (λ (say : Saying). option_map (said_of_bytes say form 0) known) c.new-log.ensures.says
    ∙ sym (ap (λ spelling. read_as spelling known)
    (ap (option_map (λ (one : Bor LogSpelling). one.now)) c.in-Some-Messages.is ∙ ap Some spelled))
