use Rattle.std.proofs.Common.{Bool, Result, None, ◌≡◌, ◌∙◌, ◌++◌, [], Err, List, ℕ, ap, sym, subst}
use Rattle.trace_order.proofs.Noting.{handed_fault}
use Rattle.trace_order.specs.declared.order_fault.GiveFault.{GiveFault}
use Rattle.trace_order.specs.declared.order_fault.GiveFault.TheVariants as give
use Rattle.trace_order.specs.Giving.{state_of}
use Rattle.trace_order.specs.State.{HasOrdered, names_in}
use Rattle.trace_messages.specs.declared.message_log.MessageLog.{MessageLog}
use Rattle.trace_messages.specs.Said.{IsGivingOn, unsaid_line, waits_in}
use Rattle.trace_messages.proofs.Saying.{fault_same, gave_many, gave_none, gave_one, gives_none}
use Rattle.trace_messages.proofs.message_log.MessageLog.give_one.Goals as goal

-- What was said waits alone once no event is unsaid.
all_said : (log : MessageLog) (names : List (List ℕ)) (old : List ℕ) → log.unsaid ≡ None → waits_in log ≡ old
    → log.said.items ++ unsaid_line names log.unsaid ≡ old
all_said log names old none same =
    ap (λ o. log.said.items ++ unsaid_line names o) none
    ∙ sym (ap (λ o. log.said.items ++ unsaid_line (names_in log.order.hosts.items) o) none) ∙ same

as_fault : (result : Result Bool GiveFault) (fault other : GiveFault) → result ≡ Err fault → result ≡ Err other
    → fault ≡ other
as_fault result fault other is also =
    let both = sym is ∙ also in
    cc

pub returns-in_err-self-clause-given : goal.returns-in_err-self-clause-given
returns-in_err-self-clause-given c = λ log given ordered.
    let mid = c.say_unsaid.new.self in
    let order_is = ap (λ (l : MessageLog). l.order) c.say_unsaid.ensures.rest in
    gives_none log given mid.order c.next.new.self _ _
    (fault_same c.in_err-self.field-0.0 _ _ _ c.in_err-self.ensures.next)
    (all_said mid _ _ c.in_ok-say_unsaid.ensures.said c.say_unsaid.ensures.waits)
    (subst (λ o. HasOrdered log given o) (sym order_is) ordered)

pub returns-in_err-self-clause-many : goal.returns-in_err-self-clause-many
returns-in_err-self-clause-many c = λ at is.
    let handed = handed_fault c.from_residual-in_err-self.result c.in_err-self.field-0.0
    c.from_residual-in_err-self.ensures in
    let same : c.in_err-self.field-0.0 ≡ give.Many at = as_fault _ _ _ handed is in
    gave_many c.in_err-self.field-0.0 at _ _ same c.in_err-self.ensures.next

pub returns-clause-giving : goal.returns-clause-giving
returns-clause-giving c =
    let mid = c.say_unsaid.new.self in
    let order_is = ap (λ (l : MessageLog). l.order) c.say_unsaid.ensures.rest in
    let whole : mid.said.items ++ [] ≡ waits_in c.args.self.now =
    sym (ap (λ o. mid.said.items ++ unsaid_line (names_in mid.order.hosts.items) o) c.in_ok-say_unsaid.ensures.said)
    ∙ c.say_unsaid.ensures.waits in
    subst (λ o. IsGivingOn (waits_in c.args.self.now) (state_of o)
    (mid.said.items ++ unsaid_line (names_in c.next.new.self.hosts.items) c.in_ok-self.field-0)
    (state_of c.next.new.self)) order_is
    (gave_one (waits_in c.args.self.now) (state_of mid.order) mid.said.items c.in_ok-self.field-0
    (state_of c.next.new.self) whole c.in_ok-self.ensures.names c.in_ok-self.ensures.next)

pub returns-clause-out : goal.returns-clause-out
returns-clause-out c = λ none.
    gave_none c.in_ok-self.field-0 _ _ (sym c.is_some.ensures ∙ none) c.in_ok-self.ensures.next
