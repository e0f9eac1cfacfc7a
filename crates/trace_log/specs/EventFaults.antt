-- The fault of a reader of events where it got no line, or where the log didn't read it.
use Rattle.wcp_io.specs.declared.line_fault.InputFault.{InputFault}
use Rattle.wcp_io.specs.declared.line_fault.InputFault.TheVariants as input
use Rattle.trace_log.specs.declared.fault.LogReadFault.{LogReadFault}
use Rattle.trace_log.specs.declared.fault.LogReadFault.TheVariants as read
use Rattle.trace_log.specs.declared.event_fault.EventFault.{EventFault}
use Rattle.trace_log.specs.declared.event_fault.EventFault.TheVariants.{Log, Read, Memory}

abbrev pub fault_of_input : InputFault → EventFault
fault_of_input input.Read = Read
fault_of_input input.Memory = Memory

abbrev pub fault_of_read : LogReadFault → EventFault
fault_of_read (read.Log fault) = Log fault
fault_of_read read.Memory = Memory
