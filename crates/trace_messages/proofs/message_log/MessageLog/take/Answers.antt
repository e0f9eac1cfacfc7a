use Rattle.std.proofs.Common.{◌∙◌, ◌++◌, ◌∷◌, [], ap, sym, subst, string_bytes, append-nil}
use Rattle.trace_rewrite.specs.Lines.{fault_line}
use Rattle.trace_order.specs.State.{line_of, names_in}
use Rattle.trace_messages.specs.declared.message_log.MessageLog.{MessageLog}
use Rattle.trace_messages.specs.Lines.{GivesOn, IsRefused, TakesLine}
use Rattle.trace_messages.specs.Lines.SaysFault.{of_line}
use Rattle.trace_messages.specs.Said.{many_line, unsaid_line, waits_in}
use Rattle.trace_messages.specs.Words.{fault_of}
use Rattle.trace_messages.proofs.Taking.{many_said, none_many, takes_line}
use Rattle.trace_messages.proofs.Turns.{on_two}
use Rattle.trace_messages.proofs.message_log.MessageLog.take.Goals as goal

pub returns-in-Err-Has-clause-over : goal.returns-in-Err-Has-clause-over
returns-in-Err-Has-clause-over c = λ goes_on over.
    let known = line_of c.args.self.now.order in
    let fault = subst (λ f. IsRefused f known c.args.number c.args.line.now) c.in-Err-Has.field-0-is
    c.in-Err-Has.ensures.refused in
    of_line (fault_of c.in-Err-Has.kind c.in-Err-Has.words.now) fault c.in_ok-push_fault-in-Err-Has.ensures

pub returns-in-Err-Told-clause-over : goal.returns-in-Err-Told-clause-over
returns-in-Err-Told-clause-over c = λ goes_on over.
    let known = line_of c.args.self.now.order in
    let fault = subst (λ f. IsRefused f known c.args.number c.args.line.now) c.in-Err-Told.field-0-is
    c.in-Err-Told.ensures.refused in
    of_line (fault_of c.in-Err-Told.kind (string_bytes c.in-Err-Told.words)) fault
    (c.in_ok-push_fault-in-Err-Told.ensures
    ∙ ap (λ w. c.args.out.now.items ++ fault_line c.args.number c.in-Err-Told.kind w) c.as_str.ensures.value)

pub returns-clause-taken : goal.returns-clause-taken
returns-clause-taken c =
    let all = c.give_all.new.self in
    let new = c.add_said.new.self in
    on_two c.add_said.result
    (λ added rest reads goes_on log given ordered before.
    let read = c.in-Ok.ensures.read reads log given ordered before in
    let gives = subst (λ w. GivesOn (log ++ read.reads.event ∷ []) given all.order w (waits_in all))
    (c.in-Ok.ensures.begun reads) (c.give_all.ensures.given (log ++ read.reads.event ∷ []) given read.reads.ordered) in
    let many = none_many c.in_ok-many.many new.is_over (ap (λ (l : MessageLog). l.is_over) rest) goes_on in
    let whole = ap (λ o. all.said.items ++ unsaid_line (names_in all.order.hosts.items) o) c.in_ok-many.ensures.said
    ∙ append-nil all.said.items in
    let order_is = ap (λ (l : MessageLog). l.order) rest in
    subst (λ o. TakesLine log given c.args.number c.args.line.now o c.args.out.now.items c.add_said.new.out.items)
    (sym order_is)
    (takes_line log given c.args.number c.args.line.now c.begin.new.self.order all.order (waits_in all) all.said.items
    c.args.out.now.items c.add_said.new.out.items c.in_ok-many.many read gives c.give_all.ensures.names whole many
    (c.in_ok-many.ensures.all_wait many (log ++ read.reads.event ∷ []) (given ++ gives.more) gives.ordered) added))
    c.add_said.ensures.added c.add_said.ensures.rest

pub returns-clause-over : goal.returns-clause-over
returns-clause-over c =
    on_two c.add_said.result
    (λ added rest goes_on over.
    many_said _ _ _ c.in_ok-many.many c.add_said.new.self.is_over c.args.out.now.items c.give_all.new.self.said.items
    c.add_said.new.out.items (ap (λ (l : MessageLog). l.is_over) rest) over added)
    c.add_said.ensures.added c.add_said.ensures.rest

pub returns-clause-said : goal.returns-clause-said
returns-clause-said c =
    let all = c.give_all.new.self in
    let goes_on = c.begin.ensures.goes_on ∙ c.if-self.false in
    let giving = c.in-Ok.ensures.giving in
    let rest = c.give_all.ensures.rest in
    on_two c.add_said.result
    (λ added says. record {
      piece = all.said.items ++ many_line c.in_ok-many.many;
      added = added;
      said = λ lines.
          sym (c.begin.ensures.again c.if-self.false lines)
          ∙ sym (c.give_all.ensures.again goes_on giving c.args.number c.args.line.now lines)
          ∙ says (ap (λ (l : MessageLog). l.is_over) rest ∙ goes_on)
          (ap (λ (l : MessageLog). l.is_giving) rest ∙ giving)
          c.in_ok-many.ensures.said c.in_ok-many.ensures.out c.args.line.now lines;
    })
    c.add_said.ensures.added c.add_said.ensures.says
