use Rattle.std.proofs.Common.{◌∙◌, ap, is_none, is_some}
use Rattle.trace_order.specs.State.{is_announced}
use Rattle.trace_order.specs.Waiting.{first_not}
use Rattle.trace_order.proofs.Receiving.{all_where_none, none_mapped, none_where}
use Rattle.trace_order.proofs.order.MessageOrder.has_senders.Goals as goal

pub returns : goal.returns
returns c =
    let known = is_announced c.args.self.now in
    none_where (is_some c.first_unannounced.result) c.is_none.result c.is_none.ensures
    ∙ none_mapped (λ id. id.now) c.first_unannounced.result
    ∙ ap is_none (c.first_unannounced.ensures ∙ ap (first_not known) c.receives.ensures)
    ∙ all_where_none known c.args.event.now.receives
