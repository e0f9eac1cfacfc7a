use Rattle.std.proofs.Common.{◌≡◌, length, ap, arith, ◌∙◌}
use Rattle.wcp_clock.specs.Merge.{merged}
use Rattle.wcp_clock.proofs.Merging.{same_front, length-merged, take-merged, drop-merged_zeros}
use Rattle.wcp_clock.proofs.per_process.PerProcess+u32.merge.Goals as goal

pub invariant_of-result : goal.invariant_of-result
invariant_of-result c =
    let same : c.other.inside.count ≡ c.self.inside.count = same_front _ _ c.self.inside.values c.other.inside.values
    (omega arith) (omega arith) (rw (c.self.view_is, c.other.view_is) c.requires) in
    let long : length c.self.inside.values ≡ length c.other.inside.values = omega arith in
    rw c.greater.ensures (
      c.self.invariant.0,
      c.self.invariant.1,
      length-merged _ _ long ∙ c.self.invariant.2,
      drop-merged_zeros c.self.inside.count _ _ _ long c.self.invariant.3 (rw same at c.other.invariant.3),
    )

pub returns : goal.returns
returns c =
    let same : c.other.inside.count ≡ c.self.inside.count = same_front _ _ c.self.inside.values c.other.inside.values
    (omega arith) (omega arith) (rw (c.self.view_is, c.other.view_is) c.requires) in
    let long : length c.self.inside.values ≡ length c.other.inside.values = omega arith in
    rw (c.greater.ensures, take-merged c.self.inside.count _ _ long, c.self.view_is)
    (ap (merged c.args.self.now) (rw same at c.other.view_is))
