use Rattle.std.specs.Prelude.{◌==◌, ◌&&◌, Bool, nat_lt, nat_le, length, slice_index}
use Rattle.wcp_probe.specs.Core.{Core}
use Rattle.wcp_probe.specs.Seal.{Seal}

-- The probe's clock counts the send that has this seal: it is of the same watch, and the sender had then made no more
-- events than the probe knows of.
abbrev pub is_known : Core → Seal → Bool
is_known core seal = (seal.watch == core.watch) && nat_lt seal.from (length core.clock)
    && nat_le (slice_index seal.clock seal.from) (slice_index core.clock seal.from)
