use Rattle.std.proofs.Common.{Some, refl, sym, ap, ◌∙◌}
use Rattle.wullaphi.proofs.OwnWatches.{its, none_ended, own_probes, own_relays}
use Rattle.wullaphi.proofs.opening.OpenWatch.parts.Goals as goal

pub new-requires : goal.new-requires
new-requires g c = none_ended (c.requires ∙ ap Some (sym c.self.view_is)) c.self.invariant.is_open

pub name_probes-requires : goal.name_probes-requires
name_probes-requires g c = own_probes (c.requires ∙ ap Some (sym c.self.view_is)) c.self.invariant.is_open

pub name_relays-requires : goal.name_relays-requires
name_relays-requires g c = own_relays (c.requires ∙ ap Some (sym c.self.view_is)) c.self.invariant.is_open

pub new-checker-requires : goal.new-checker-requires
new-checker-requires g c =
    its (c.requires ∙ ap Some (sym c.self.view_is)) c.self.invariant.is_open
    (record { is_inbox = refl; watched = c.self.invariant.watched; fresh = c.self.invariant.fresh })
