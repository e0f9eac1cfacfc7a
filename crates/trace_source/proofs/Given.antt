-- What a reader of clocks gives is what was read.
use Rattle.std.proofs.Common.{◌≡◌, ℕ, Bool, true, false, List, Option, Some, None, Result, Ok, Err}
use Rattle.std.specs.Option.{IsSomeAnd}
use Rattle.trace_log.specs.declared.event_fault.EventFault.{EventFault}
use Rattle.trace_log.specs.declared.event_fault.EventFault.TheVariants as fault
use Rattle.trace_log.specs.Log.{Logged}
use Rattle.trace_log.specs.Reading.{ReadsEvent}
use Rattle.trace_log.specs.State.{last_event}
use Rattle.trace_source.specs.declared.clocked.Clocked.{Clocked}
use Rattle.trace_source.specs.Clocked.{LogInput, left_of, log_story}
use Rattle.trace_source.specs.Story.{Advances}

some_and : (event : Option Logged) (P Q : Logged → Type 0) → ((one : Logged) → P one → Q one) → IsSomeAnd event P
    → IsSomeAnd event Q
some_and (Some one) P Q so is = so one is
some_and None P Q so is = is

pub advances : {I : Type 0} (remaining : I → Option (List ℕ)) (log : LogInput) (before : List Logged)
    (source : Clocked I) (result : Result Bool EventFault) → source.input.ghost_name ≡ log.lent
    → ReadsEvent log.form log.bytes (left_of remaining source) before result source.events.log
    → Advances (log_story remaining log) before result (last_event source.events.log) source
advances remaining log before source (Ok true) lent reads =
    some_and (last_event source.events.log) _ _
    (λ one next. record { follows = next.follows; gave = record { lent = lent; read = next.read }; gives = next }) reads
advances remaining log before source (Ok false) lent reads = record { lent = lent; says = reads }
advances remaining log before source (Err (fault.Log what)) lent reads = reads
advances remaining log before source (Err (fault.Forgets what)) lent reads = reads
advances remaining log before source (Err fault.Read) lent reads = tt
advances remaining log before source (Err fault.Memory) lent reads = tt
