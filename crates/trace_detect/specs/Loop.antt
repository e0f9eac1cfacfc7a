-- How far an input was read.
use Rattle.std.specs.Prelude.{ℕ, List, Bool, Option, MatchBool}
use Rattle.trace_log.specs.declared.log.Log.{Log}
use Rattle.trace_log.specs.declared.turn.Form.{Form}
use Rattle.trace_log.specs.Log.{Logged}
use Rattle.trace_log.specs.Reading.{HasReadEvents, SaysWhole}

-- So much of an input was read, event by event, or all of it.
abbrev pub HasReadSo : Bool → Form → Option (List ℕ) → Option (List ℕ) → List Logged → Log → Type 0
HasReadSo ended form input left logged log =
    MatchBool ended (SaysWhole form input left logged) (HasReadEvents form input left logged log)
