-- What is given of a log with clocks.
use Rattle.std.specs.Prelude.{◌≡◌, ℕ, List, Option, true}
use Rattle.std.specs.Borrow.{GName}
use Rattle.wcp_io.specs.Reader.{left}
use Rattle.trace_log.specs.declared.turn.Form.{Form}
use Rattle.trace_log.specs.Log.{Logged}
use Rattle.trace_log.specs.Reading.{HasFault, HasReadEvents, ReadsNext, SaysWhole}
use Rattle.trace_source.specs.declared.clocked.Clocked.{Clocked}
use Rattle.trace_source.specs.Story.{Story}

-- A log: its form, and its bytes, where they are known; and by what name the input that has them is lent.
pub record LogInput : Type 0 where
  pub form : Form
  pub bytes : Option (List ℕ)
  pub lent : GName

-- A log of this form and with these bytes, whose input is lent to a source.
abbrev pub log_of : {I : Type 0} → Form → Option (List ℕ) → Clocked I → LogInput
log_of form bytes source = record { form = form; bytes = bytes; lent = source.input.ghost_name }

-- What is left of the input, where this says what a reader has left: the bytes that were read ahead, and those of the
-- reader.
abbrev pub left_of : {I : Type 0} → (I → Option (List ℕ)) → Clocked I → Option (List ℕ)
left_of remaining source = left source.events.lines (remaining source.input.now)

-- So many events were read of the input that was lent.
pub record HasGiven {I : Type 0} (remaining : I → Option (List ℕ)) (log : LogInput) (logged : List Logged)
    (source : Clocked I) : Type 0 where
  pub lent : source.input.ghost_name ≡ log.lent
  pub read : HasReadEvents log.form log.bytes (left_of remaining source) logged source.events.log

-- All events were.
pub record HasEnded {I : Type 0} (remaining : I → Option (List ℕ)) (log : LogInput) (logged : List Logged)
    (source : Clocked I) : Type 0 where
  pub lent : source.input.ghost_name ≡ log.lent
  pub says : SaysWhole log.form log.bytes (left_of remaining source) logged

-- What is told of a log.
abbrev pub log_story : {I : Type 0} → (I → Option (List ℕ)) → LogInput → Story (Clocked I)
log_story remaining log = record {
  gave = HasGiven remaining log;
  gives = λ before one s. ReadsNext log.form log.bytes (left_of remaining s) before one s.events.log;
  ended = HasEnded remaining log;
  fails = HasFault log.form log.bytes;
  checks = log.form.check ≡ true;
}
