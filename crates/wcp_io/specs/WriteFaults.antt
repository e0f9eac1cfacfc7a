-- Why a text wasn't written.
use Rattle.wcp_io.specs.declared.io_fault.IoFault.{IoFault}
use Rattle.wcp_io.specs.declared.io_fault.IoFault.TheVariants as io

-- A fault is one of a write: it failed, or nobody reads the output any more.
abbrev pub IsWriteFault : IoFault → Type 0
IsWriteFault io.Write = Unit {0}
IsWriteFault io.Closed = Unit {0}
IsWriteFault io.Read = ⊥
IsWriteFault io.TooLarge = ⊥
IsWriteFault io.Memory = ⊥
