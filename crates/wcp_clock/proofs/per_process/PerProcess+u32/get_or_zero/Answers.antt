use Rattle.std.proofs.Common.{◌∙◌, ap, List, ℕ, slice_index}
use Rattle.wcp_clock.specs.Padding.{padded_cell}
use Rattle.wcp_clock.proofs.per_process.PerProcess+u32.get_or_zero.Goals as goal

pub returns : goal.returns
returns c =
    padded_cell c.self.inside.count 16 c.self.inside.values c.args.p c.requires c.self.invariant.1 c.self.invariant.2
    c.self.invariant.3
    ∙ ap (λ (clock : List ℕ). slice_index clock c.args.p) c.self.view_is
