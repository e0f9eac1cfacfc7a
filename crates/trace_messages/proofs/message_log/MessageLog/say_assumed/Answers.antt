use Rattle.std.proofs.Common.{◌∙◌, ◌++◌, append_assoc, ap, sym}
use Rattle.trace_order.specs.Assumed.{assumed}
use Rattle.trace_order.specs.Giving.{state_of}
use Rattle.trace_messages.specs.declared.message_log.MessageLog.{MessageLog}
use Rattle.trace_messages.specs.declared.unsent.Unsent.TheVariants.{Told}
use Rattle.trace_messages.specs.Said.{many_line, waiting_said}
use Rattle.trace_messages.proofs.Assuming.{all_given, on_goes, over_ends}
use Rattle.trace_messages.proofs.Turns.{on_success}
use Rattle.trace_messages.proofs.message_log.MessageLog.say_assumed.Goals as goal

pub returns-then-rest : goal.returns-then-rest
returns-then-rest c =
    let say = waiting_said Told c.args.self.now.last in
    let new = c.give_all.new.self in
    let many = c.in_ok-many.many in
    let given = c.in_ok-many.ensures in
    c.in_ok-add_said.ensures.added
    ∙ ap (λ l. c.args.out.now.items ++ l) (over_ends say many (state_of new.order) _
    (sym (ap (λ (l : MessageLog). l.is_over) c.in_ok-add_said.ensures.rest) ∙ c.if-rest.true)
    ∙ all_given say c.in_ok-rest.rest new (assumed (state_of c.args.self.now.order)) many c.in_ok-rest.ensures.state
    c.in_ok-rest.ensures.begun given.giving given.out given.said)

pub returns : goal.returns
returns c =
    let say = waiting_said Told c.args.self.now.last in
    let front = c.args.out.now.items in
    let new = c.give_all.new.self in
    let last = c.add_said.new.self in
    let many = c.in_ok-many.many in
    let given = c.in_ok-many.ensures in
    let piece = new.said.items ++ many_line many in
    let rest = c.in_ok-add_said.ensures.rest in
    let told = ap (λ (l : MessageLog). l.unsent) rest ∙ ap (λ (l : MessageLog). l.unsent) given.rest
    ∙ c.in_ok-rest.ensures.rest.2 in
    on_success c.say_waiting.result
    (λ added. added
    ∙ ap (λ u. c.add_said.new.out.items ++ waiting_said u last.last (state_of last.order)) told
    ∙ ap (λ (l : MessageLog). c.add_said.new.out.items ++ waiting_said Told l.last (state_of l.order)) rest
    ∙ ap (λ l. l ++ say (state_of new.order)) c.in_ok-add_said.ensures.added
    ∙ append_assoc front piece _
    ∙ ap (λ l. front ++ (piece ++ l)) (on_goes say many (state_of new.order)
    (sym (ap (λ (l : MessageLog). l.is_over) rest) ∙ c.if-rest.false))
    ∙ ap (λ l. front ++ l) (all_given say c.in_ok-rest.rest new (assumed (state_of c.args.self.now.order)) many
    c.in_ok-rest.ensures.state c.in_ok-rest.ensures.begun given.giving given.out given.said))
    c.say_waiting.ensures
