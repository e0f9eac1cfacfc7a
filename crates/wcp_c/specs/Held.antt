use base.Fml.{Fml, ftrue}
use base.Stored.{Coded}
use denote.RawPtr.{Ptr}
use Rattle.std.specs.Prelude.{Option, Some, None}
use Rattle.std.specs.Coded.{coded_option}
use Rattle.std.specs.Box.Ownership.{box_owns}
use Rattle.std.specs.Global.{Global}
use Rattle.std_heap.specs.contracts.GlobalAllocator.TheImpl.{ghosts}
use Rattle.wcp_c.specs.contracts.watching.Watching.{the_row}

-- What a handle owns: what a box with its checker would own, or nothing.
abbrev pub held_owns : Global → Ptr → Option the_row.Denot → Fml
held_owns alloc ptr None = ftrue
held_owns alloc ptr (Some checker) = box_owns (ghosts.dealloc_token alloc) the_row ptr checker

abbrev pub held_coded : Coded (Option the_row.Denot)
held_coded = coded_option the_row.coded
