use Rattle.std.proofs.Common.{◌∙◌, ◌<◌, ap, refl, subst, ◌||◌, ◌++◌, ◌∷◌, [], length, set, arith, None, Some, cond}
use Rattle.std.proofs.Common.{is_some, map, string_bytes}
use Rattle.std.proofs.lemmas.List.{get_or_read}
use Rattle.trace_order.specs.Ids.{AreNew, is_known}
use Rattle.trace_order.specs.Messages.{is_among}
use Rattle.trace_order.specs.Orders.{host_at}
use Rattle.trace_order.specs.State.{is_announced, line_of}
use Rattle.std.specs.HashMap.{get_by_text}
use Rattle.std.proofs.lemmas.List.{take_all}
use Rattle.trace_order.specs.Messages.{MessageEvent}
use Rattle.trace_order.proofs.Noting.{either_known, new_absent, not_known, out_again}
use Rattle.trace_order.proofs.Hosts.{names_set}
use Rattle.trace_order.proofs.Ordering.{ordered_put}
use Rattle.trace_order.proofs.order.MessageOrder.put.Goals as goal

pub returns-clause-names : goal.returns-clause-names
returns-clause-names c =
    let hosts = c.args.self.now.hosts.items in
    let within : c.host-number.result < length hosts = omega (arith, c.host-number.ensures, c.requires) in
    let read = get_or_read hosts c.host-number.result c.index_mut.result.now within c.index_mut.ensures.value _ in
    names_set hosts c.host-number.result c.push.new.self
    (ap (λ h. h.name) c.in_default.ensures.waits ∙ ap (λ h. h.name) read)

pub returns-clause-taken : goal.returns-clause-taken
returns-clause-taken c = λ log given ordered behind.
    let hosts = c.args.self.now.hosts.items in
    let number_is = c.host-number.ensures in
    let within : c.host-number.result < length hosts = omega (arith, number_is, c.requires) in
    let read = get_or_read hosts c.host-number.result c.index_mut.result.now within c.index_mut.ensures.value _
    ∙ ap (host_at hosts) number_is in
    ordered_put log given c.args.self.now _ c.args.event c.push.new.self ordered behind c.requires
    (ap (λ h. set hosts h c.push.new.self) number_is)
    (ap (λ h. h.waits) c.in_default.ensures.waits ∙ ap (λ h. h.waits ++ c.args.event ∷ []) read)
    (ap (λ h. h.clock) c.in_default.ensures.waits ∙ ap (λ h. h.clock) read)
    (subst (AreNew (is_announced c.args.self.now)) c.sends.ensures c.in_ok-announce.ensures.new)
    (λ id. ap is_some (c.in_ok-announce.ensures.added id)
    ∙ either_known (is_among id (map string_bytes c.sends.result.now)) c.line.result (line_of c.args.self.now id)
    ∙ ap (λ l. is_announced c.args.self.now id || is_among id l) c.sends.ensures) refl (returns-clause-names c)

pub returns-clause-new : goal.returns-clause-new
returns-clause-new c = subst (AreNew (is_announced c.args.self.now)) c.sends.ensures c.in_ok-announce.ensures.new

pub returns-in-Err-clause-none : goal.returns-in-Err-clause-none
returns-in-Err-clause-none c = λ id.
    let before = line_of c.args.self.now in
    let sends = c.args.event.sends in
    let new = subst (AreNew (is_known before)) c.sends.ensures c.in_ok-announce.ensures.new in
    let same = c.sends-in-Err.ensures ∙ ap (λ (e : MessageEvent). e.sends) c.in-Err.ensures.back in
    c.retract.ensures id
    ∙ ap (λ l. cond (is_among id l) None (get_by_text c.announce.new.announced id)) same
    ∙ ap (λ o. cond (is_among id sends) None o) (c.in_ok-announce.ensures.added id
    ∙ ap (λ l. cond (is_among id l) (Some c.line.result) (before id)) c.sends.ensures)
    ∙ out_again (is_among id sends) c.line.result (before id)
    (λ there. not_known (before id) (new_absent (is_known before) sends (length sends) (omega arith) new id
    (ap (is_among id) (take_all (length sends) sends (omega arith)) ∙ there)))
