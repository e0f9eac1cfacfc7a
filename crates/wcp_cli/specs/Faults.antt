use Rattle.wcp_io.specs.declared.io_fault.IoFault.TheVariants.{Memory}
use Rattle.wcp_script.specs.declared.fault.ReadFault.{ReadFault}
use Rattle.wcp_script.specs.declared.fault.ReadFault.TheVariants as read
use Rattle.wcp_cli.specs.declared.fault.Fault.{Fault}
use Rattle.wcp_cli.specs.declared.fault.Fault.TheVariants.{Io, Script}

-- The program's fault where a text wasn't read: that of the text, or want of memory.
abbrev pub fault_of_read : ReadFault → Fault
fault_of_read (read.Script fault) = Script fault
fault_of_read read.NoMemory = Io Memory
