-- What is kept of an event, and of all.
use Rattle.std.specs.Prelude.{List, map, string_bytes}
use Rattle.std.specs.declared.alloc.Global.{Global}
use Rattle.std.specs.declared.collections.VecDeque.{VecDeque}
use Rattle.wullaphi_record.specs.declared.recorded.RecordedEvent.{RecordedEvent}
use Rattle.wullaphi_record.specs.Recorded.{Recorded}

abbrev pub seen_event : RecordedEvent → Recorded
seen_event one = record { clock = one.clock; text = string_bytes one.text }

abbrev pub seen_events : VecDeque RecordedEvent Global → List Recorded
seen_events events = map seen_event events.items
