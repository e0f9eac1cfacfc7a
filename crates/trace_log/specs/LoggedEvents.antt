-- The events that the lines of a log end, and what a whole log says.
use Rattle.std.specs.Prelude.{◌≡◌, ℕ, List, [], ◌∷◌, ◌++◌, map, Result, Ok, Err}
use Rattle.std.specs.Option.{option_to_list}
use Rattle.trace_log.specs.declared.fault.LogFault.{LogFault}
use Rattle.trace_log.specs.declared.turn.Form.{Form}
use Rattle.trace_log.specs.Judgement.{◌>>=◌}
use Rattle.trace_log.specs.Event.{Event}
use Rattle.trace_log.specs.Order.{last_clock, follows}
use Rattle.trace_log.specs.Log.{Logged, SoFar, Turn, after, end_of, log_from, next_turn, no_lines}

-- The event of a turn, if there is one, and then those of later turns.
abbrev pub event_and_later : Result Turn LogFault → (Turn → List Logged) → List Logged
event_and_later (Ok turn) later = option_to_list turn.event ++ later turn
event_and_later (Err fault) later = []

-- The events that lines end after those so far, up to the first fault.
unfoldable pub logged_from : Form → SoFar → List (List ℕ) → List Logged
logged_from form so_far [] = []
logged_from form so_far (line ∷ lines) =
    event_and_later (next_turn form so_far line) (λ turn. logged_from form (after so_far turn) lines)

-- What the lines of a whole log say, or its fault.
abbrev pub whole_log : Form → List (List ℕ) → Result SoFar LogFault
whole_log form lines = do
  so_far ← log_from form no_lines lines
  _ ← end_of so_far
  Ok so_far

-- Lines end these events, and then they have this fault, or their end has it.
pub record FailAfter (form : Form) (lines : List (List ℕ)) (logged : List Logged) (fault : LogFault) : Type 0 where
  pub failed : whole_log form lines ≡ Err fault
  pub ended : logged_from form no_lines lines ≡ logged

-- The last of these lines ends an event: the lines before it end these events.
pub record EndsOneMore (form : Form) (lines : List (List ℕ)) (logged : List Logged) : Type 0 where
  pub earlier : List (List ℕ)
  pub line : List ℕ
  pub parts : lines ≡ earlier ++ line ∷ []
  pub ended : logged_from form no_lines earlier ≡ logged

-- Events without their lines.
abbrev pub events_of : List Logged → List Event
events_of logged = map (λ one. one.event) logged

-- The clock of an event follows that of its host's event before.
abbrev pub FollowsIn : List Logged → Event → Type 0
FollowsIn logged event = follows event.host (last_clock event.host (events_of logged)) event.clock ≡ Ok tt
