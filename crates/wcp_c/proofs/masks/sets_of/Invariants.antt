use Rattle.std.proofs.Common.{◌≡◌, ℕ, ◌<◌, All, length, slice_index, slice_index_or}
use Rattle.std.specs.FinSet as set
use Rattle.wcp_model.specs.Watched.{AreSomeWatched}
use Rattle.wcp_c.specs.Masks.{IsSetOfMask}
use Rattle.wcp_c.proofs.masks.sets_of.Given as goal

abbrev pub invariant-loop-mask : goal.invariant-loop-mask
invariant-loop-mask l = record {
  as_many : length l.sets.items ≡ l.mask-index;
  each : (k : ℕ) → k < l.mask-index
      → IsSetOfMask (slice_index l.masks k) (slice_index_or l.sets.items k set.empty);
  some : All (AreSomeWatched l.processes) l.sets.items;
}
