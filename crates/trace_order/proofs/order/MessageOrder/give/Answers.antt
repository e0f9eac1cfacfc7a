use Rattle.std.proofs.Common.{Err, ◌≡◌, ◌∙◌, ◌∷◌, ap, refl, sym, Some, cond, map, string_bytes}
use Rattle.std.proofs.lemmas.List.{get_or_read}
use Rattle.trace_order.specs.Messages.{is_among}
use Rattle.trace_order.specs.Orders.{first_sends, host_at}
use Rattle.trace_order.specs.State.{sent_of, waits_in}
use Rattle.trace_order.specs.Giving.{state_of}
use Rattle.trace_order.proofs.Hosts.{names_set, fewer_wait}
use Rattle.trace_order.proofs.Ordering.{ordered_give}
use Rattle.trace_order.proofs.Steps.{given_fault, given_next}
use Rattle.trace_order.proofs.Noting.{handed_fault}
use Rattle.trace_order.proofs.order.MessageOrder.give.Goals as goal

read_is : (c : goal.After-self-1) → c.index_mut.result.now ≡ host_at c.args.self.now.hosts.items c.args.number
read_is c = get_or_read c.args.self.now.hosts.items c.args.number c.index_mut.result.now c.requires.within
    c.index_mut.ensures.value _

waits_are : (c : goal.After-self-1)
    → waits_in c.args.self.now.hosts.items c.args.number ≡ c.pop-event.result ∷ c.pop-event.new.self.waits
waits_are c = ap (λ h. h.waits) (sym (read_is c)) ∙ c.pop-event.ensures.event

sends_are : (c : goal.After-self-1) → map string_bytes c.sends.result.now ≡ c.pop-event.result.sends
sends_are c =
    let hosts = c.args.self.now.hosts.items in
    let read = get_or_read hosts c.args.number c.index.result.now c.requires.within c.index.ensures _ in
    c.sends.ensures ∙ ap (λ h. first_sends h.waits) read ∙ ap first_sends (waits_are c)

pub returns-clause-names : goal.returns-clause-names
returns-clause-names c =
    names_set c.args.self.now.hosts.items c.args.number c.pop-event.new.self
    (c.pop-event.ensures.name ∙ ap (λ h. h.name) (read_is c))

clock_is : (c : goal.After-self-1) → c.pop-event.new.self.clock ≡ c.in_ok-clock.clock.items
clock_is c = c.pop-event.ensures.clock ∙ c.in_ok-kept.ensures.items ∙ c.deref.ensures.value

pub returns-clause-given : goal.returns-clause-given
returns-clause-given c = λ log given ordered.
    ordered_give log given c.args.self.now _ c.args.number c.pop-event.result c.pop-event.new.self
    c.in_ok-clock.clock.items ordered c.requires.within (waits_are c) c.requires.ready c.in_ok-clock.ensures.clock refl
    (clock_is c)
    (λ id. c.in_ok-note_sent.ensures.noted id
    ∙ ap (λ l. cond (is_among id l) (Some c.deref-2.result.now) (sent_of c.args.self.now id)) (sends_are c)
    ∙ ap (λ l. cond (is_among id c.pop-event.result.sends) (Some l) (sent_of c.args.self.now id))
    c.deref-2.ensures.value)
    refl (returns-clause-names c)

pub returns-clause-fewer : goal.returns-clause-fewer
returns-clause-fewer c =
    fewer_wait c.args.self.now.hosts.items c.args.number c.index_mut.result.now c.pop-event.new.self c.pop-event.result
    c.requires.within (read_is c) c.pop-event.ensures.event

pub returns-in_err-clock-clause-next : goal.returns-in_err-clock-clause-next
returns-in_err-clock-clause-next c =
    given_fault (state_of c.args.self.now) c.args.number c.in_err-clock.field-0.0
    (λ line same. c.in_err-clock.ensures.many line (ap Err same)) c.from_residual.result
    (handed_fault c.from_residual.result c.in_err-clock.field-0.0 c.from_residual.ensures)

pub returns-clause-next : goal.returns-clause-next
returns-clause-next c =
    given_next (state_of c.args.self.now) c.args.number c.pop-event.result c.pop-event.new.self
    c.in_ok-clock.clock.items _ (waits_are c) (c.pop-event.ensures.name ∙ ap (λ h. h.name) (read_is c)) (clock_is c)
    c.in_ok-clock.ensures.next c.in_ok-clock.ensures.fits
    (λ id. c.in_ok-note_sent.ensures.noted id
    ∙ ap (λ l. cond (is_among id l) (Some c.deref-2.result.now) (sent_of c.args.self.now id)) (sends_are c)
    ∙ ap (λ l. cond (is_among id c.pop-event.result.sends) (Some l) (sent_of c.args.self.now id))
    c.deref-2.ensures.value)
