use Rattle.std.proofs.Common.{All, take}
use Rattle.wcp_c.specs.Masks.{IsMask}
use Rattle.wcp_c.proofs.masks.are_masks.Given as goal

abbrev pub invariant-loop-mask : goal.invariant-loop-mask
invariant-loop-mask l = All (IsMask l.processes) (take l.mask-index l.masks)
