-- How a line is refused.
use Rattle.std.specs.Prelude.{◌≡◌, Result, Ok, Err, string_bytes}
use Rattle.trace_messages.specs.declared.message_fault.MessageFault.{MessageFault}
use Rattle.trace_messages.specs.declared.message_fault.MessageFault.TheVariants.{Has, Told, Memory}
use Rattle.trace_messages.specs.Words.{LineFault, fault_of}

-- A function failed with the fault that was found, in its words, unless memory ran out.
abbrev pub Refuses : {Y : Type 0} → MessageFault → Result Y LineFault → Type 0
Refuses (Has what words) judged = judged ≡ Err (fault_of what words.now)
Refuses (Told what words) judged = judged ≡ Err (fault_of what (string_bytes words))
Refuses Memory judged = Unit {0}

-- What a function returned, seen by view, is what was judged, or the fault that was found.
abbrev pub Reads : {X Y : Type 0} → (X → Y) → Result X MessageFault → Result Y LineFault → Type 0
Reads view (Ok found) judged = judged ≡ Ok (view found)
Reads view (Err fault) judged = Refuses fault judged
