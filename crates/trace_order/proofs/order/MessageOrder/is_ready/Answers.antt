use Rattle.std.proofs.Common.{◌≡◌, ◌∙◌, Some, ap, is_none, is_some, sym}
use Rattle.std.proofs.lemmas.List.{get_or_read}
use Rattle.std.specs.Option.{option_copied}
use Rattle.trace_order.specs.Orders.{first_waiting}
use Rattle.trace_order.specs.State.{sent_of, waits_in}
use Rattle.trace_order.specs.Waiting.{first_not}
use Rattle.trace_order.proofs.Receiving.{all_where_none, first_goes, none_mapped, none_where}
use Rattle.trace_order.proofs.order.MessageOrder.is_ready.Goals as goal

pub returns : goal.returns
returns c =
    let hosts = c.args.self.now.hosts.items in
    let waits = waits_in hosts c.args.number in
    let sent = sent_of c.args.self.now in
    let event = c.in-Some.event.now in
    let read = get_or_read hosts c.args.number c.index.result.now c.requires c.index.ensures _ in
    let first : first_waiting waits ≡ Some event =
    ap (λ h. first_waiting h.waits) (sym read) ∙ sym c.first.ensures ∙ ap option_copied c.in-Some.is in
    none_where (is_some c.first_unsent.result) c.is_none.result c.is_none.ensures
    ∙ none_mapped (λ id. id.now) c.first_unsent.result
    ∙ ap is_none (c.first_unsent.ensures ∙ ap (first_not (λ id. is_some (sent id))) c.receives.ensures)
    ∙ all_where_none (λ id. is_some (sent id)) event.receives ∙ first_goes sent waits event first
