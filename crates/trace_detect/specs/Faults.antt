-- The fault of a detection where no event was read.
use Rattle.trace_log.specs.declared.event_fault.EventFault.{EventFault}
use Rattle.trace_log.specs.declared.event_fault.EventFault.TheVariants as events
use Rattle.trace_detect.specs.declared.fault.DetectFault.{DetectFault}
use Rattle.trace_detect.specs.declared.fault.DetectFault.TheVariants.{Forgets, Log, Read, Memory}

abbrev pub fault_of_events : EventFault → DetectFault
fault_of_events (events.Log fault) = Log fault
fault_of_events (events.Forgets what) = Forgets what
fault_of_events events.Read = Read
fault_of_events events.Memory = Memory
