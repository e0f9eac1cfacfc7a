-- What a reader has read of an input, and what reading one event more answers.
use Rattle.std.specs.Prelude.{◌≡◌, ◌≤◌, ◌⊎◌, ℕ, Bool, true, false, List, [], ◌∷◌, ◌++◌, length, take}
use Rattle.std.specs.Prelude.{IfSome, Option, Some, None, Result, Ok, Err}
use Rattle.std.specs.Option.{IsSomeAnd}
use Rattle.std.specs.Io.KnownBytes.{Consumes, IsAtEnd}
use Rattle.wcp_io.specs.Lines.{lines_of}
use Rattle.trace_log.specs.declared.fault.LogFault.{LogFault}
use Rattle.trace_log.specs.declared.log.Log.{Log}
use Rattle.trace_log.specs.declared.turn.Form.{Form}
use Rattle.trace_log.specs.Event.{Event}
use Rattle.trace_log.specs.Order.{last_clock, follows}
use Rattle.trace_log.specs.Log.{Half, stamped, texted, Logged, SoFar, log_from, no_lines}
use Rattle.trace_log.specs.State.{HasRead, last_event}
use Rattle.trace_log.specs.declared.event_fault.EventFault.{EventFault}
use Rattle.trace_log.specs.declared.event_fault.EventFault.TheVariants as fault
use Rattle.trace_log.specs.LoggedEvents.{logged_from, whole_log, events_of, EndsOneMore, FailAfter, FollowsIn}

-- The lines of a log that are read: none behind the last.
abbrev pub cut_behind : Option ℕ → List (List ℕ) → List (List ℕ)
cut_behind None lines = lines
cut_behind (Some last) lines = take last lines

-- Of so many lines none stands behind the last that is read.
abbrev pub IsWithin : Option ℕ → ℕ → Type 0
IsWithin None count = Unit {0}
IsWithin (Some last) count = count ≤ last

-- The first lines of an input, after which this is left of it, end these events.
pub record Says (form : Form) (input left : Option (List ℕ)) (logged : List Logged) : Type 0 where
  pub lines : List (List ℕ)
  pub taken : List ℕ
  pub consumed : Consumes input left taken
  pub first : IfSome input (λ bytes. IfSome left (λ rest. lines_of bytes ≡ lines ++ lines_of rest))
  pub so_far : SoFar
  pub said : log_from form no_lines lines ≡ Ok so_far
  pub ended : logged_from form no_lines lines ≡ logged
  pub within : IsWithin form.last (length lines)

-- All lines of an input that are read end these events, and the log may end there. Either the input is at its end, or
-- the last line that is read was.
pub record SaysWhole (form : Form) (input left : Option (List ℕ)) (logged : List Logged) : Type 0 where
  pub lines : List (List ℕ)
  pub taken : List ℕ
  pub consumed : Consumes input left taken
  pub at_end : IsAtEnd left ⊎ (form.last ≡ Some (length lines))
  pub all : IfSome input (λ bytes. cut_behind form.last (lines_of bytes) ≡ lines)
  pub so_far : SoFar
  pub said : whole_log form lines ≡ Ok so_far
  pub ended : logged_from form no_lines lines ≡ logged

-- The lines of an input that are read end these events and then have this fault, or their end has it, whatever comes
-- after it.
pub record HasFault (form : Form) (input : Option (List ℕ)) (logged : List Logged) (fault : LogFault) : Type 0 where
  pub lines : List (List ℕ)
  pub is : FailAfter form lines logged fault
  pub of_input : IfSome input (λ bytes. FailAfter form (cut_behind form.last (lines_of bytes)) logged fault)

-- The clock that waits for its event's text follows that of the host's event before.
abbrev pub HalfFollows : List Event → Option Half → Type 0
HalfFollows earlier (Some (stamped stamp)) = follows stamp.host (last_clock stamp.host earlier) stamp.clock ≡ Ok tt
HalfFollows earlier (Some (texted line text)) = Unit {0}
HalfFollows earlier None = Unit {0}

-- A log has read the first lines of an input.
pub record HasReadEvents (form : Form) (input left : Option (List ℕ)) (logged : List Logged) (log : Log) : Type 0 where
  pub says : Says form input left logged
  pub read : HasRead form says.so_far log
  pub events : says.so_far.events ≡ events_of logged
  pub half : HalfFollows says.so_far.events says.so_far.half

-- The next event was read, and no line behind the one that ends it.
pub record ReadsNext (form : Form) (input left : Option (List ℕ)) (logged : List Logged) (one : Logged) (log : Log)
    : Type 0 where
  pub follows : FollowsIn logged one.event
  pub read : HasReadEvents form input left (logged ++ one ∷ []) log
  pub last : EndsOneMore form read.says.lines logged

-- What reading one event more answers: that there is one, which is the last event then, or that there is none, or the
-- fault of the input, unless a read failed or memory ran out; that an event forgets only where that is a fault.
abbrev pub ReadsEvent : Form → Option (List ℕ) → Option (List ℕ) → List Logged → Result Bool EventFault → Log → Type 0
ReadsEvent form input left logged (Ok true) log =
    IsSomeAnd (last_event log) (λ one. ReadsNext form input left logged one log)
ReadsEvent form input left logged (Ok false) log = SaysWhole form input left logged
ReadsEvent form input left logged (Err (fault.Log what)) log = HasFault form input logged what
ReadsEvent form input left logged (Err (fault.Forgets what)) log = form.check ≡ true
ReadsEvent form input left logged (Err fault.Read) log = Unit {0}
ReadsEvent form input left logged (Err fault.Memory) log = Unit {0}
