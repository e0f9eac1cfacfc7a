use Rattle.std.proofs.Common.{◌∙◌, ◌++◌, ap, sym}
use Rattle.trace_messages.proofs.Turns.{on_success, says_end}
use Rattle.trace_messages.proofs.message_log.MessageLogRewrite.end.Goals as goal

pub returns-clause-ok : goal.returns-clause-ok
returns-clause-ok c =
    let self = c.args.self.now in
    on_success c.say_end.result
    (λ added number. added ∙ ap (λ l. c.args.out.now.items ++ l)
    (sym (says_end self.unsent self.last _ _ number self.is_over self.is_giving c.if-self.false)))
    c.say_end.ensures
