use Rattle.std.proofs.Common.{◌∙◌, ap, map}
use Rattle.trace_order.specs.Assumed.{assumed_host}
use Rattle.trace_order.specs.State.{is_announced}
use Rattle.trace_order.proofs.Clones.{map_cloned, numbers_map_cloned}
use Rattle.trace_order.proofs.Kept.{same_kept}
use Rattle.trace_order.proofs.order.MessageOrder.assume_sent.Goals as goal

pub returns : goal.returns
returns c =
    let self = c.args.self.now in
    same_kept _ _ _ _ _ _
    (c.in_ok-assumed_hosts.ensures ∙ ap (map (assumed_host (is_announced self))) c.deref.ensures.value)
    (numbers_map_cloned self.announced c.in_ok-clone.field-0 c.in_ok-clone.ensures.cases)
    (map_cloned self.sent c.in_ok-clone-2.field-0 c.in_ok-clone-2.ensures.cases)
