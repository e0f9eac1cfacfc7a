-- What is said of the lines of a log without clocks.
use Rattle.std.specs.Prelude.{◌≡◌, ℕ, ◌+◌, ◌-◌, ◌^◌, Bool, true, false, List, [], ◌∷◌, ◌++◌, Option, Some, None}
use Rattle.std.specs.Prelude.{Result, Ok, Err, length, min, nat_le, nat_lt, decimal, codes, string_bytes, if◌then◌else◌}
use Rattle.trace_log.specs.declared.fault.LogFaultKind.TheVariants as kind
use Rattle.trace_messages.specs.declared.message_fault.MessageFault.{MessageFault}
use Rattle.trace_messages.specs.declared.message_fault.MessageFault.TheVariants.{Has, Told, Memory}
use Rattle.trace_messages.specs.declared.message_log.MessageLog.{MessageLog}
use Rattle.trace_messages.specs.declared.unsent.Unsent.{Unsent}
use Rattle.trace_messages.specs.declared.unsent.Unsent.TheVariants as rule
use Rattle.trace_messages.specs.Lines.{second_send, too_many}
use Rattle.trace_messages.specs.Printed.{ordered_line, ordered_lines}
use Rattle.trace_messages.specs.Words.{LineFault, fault_of, words_in}
use Rattle.trace_order.specs.declared.order.OrderedEvent.{OrderedEvent}
use Rattle.trace_order.specs.Assumed.{assumed}
use Rattle.trace_order.specs.Giving.{OrderState, after_reading, giving, state_of}
use Rattle.trace_order.specs.Ids.{Second, second_in}
use Rattle.trace_order.specs.Messages.{MessageEvent, Words}
use Rattle.trace_order.specs.State.{names_in, seen_ordered, waiting_in}
use Rattle.trace_order.specs.Waiting.{first_to_wait, waited_for}
use Rattle.trace_rewrite.specs.Lines.{fault_line}
use Rattle.trace_rewrite.specs.Saying.{Saying}

-- What a line makes known, and what is kept then: nothing where no more is said.
pub record Turn : Type 0 where
  pub said : List ℕ
  pub kept : Option OrderState

-- The line that says that an event has a number that no clock can have, if one has.
abbrev pub many_line : Option ℕ → List ℕ
many_line None = []
many_line (Some line) = fault_line line kind.Many too_many

abbrev pub kept_unless : Option ℕ → OrderState → Option OrderState
kept_unless None kept = Some kept
kept_unless (Some line) kept = None

-- Each event that waits for none is given on, one after another.
abbrev pub giving_turn : OrderState → Turn
giving_turn state = record {
  said = ordered_lines (names_in state.hosts) (giving state).given ++ many_line (giving state).many;
  kept = kept_unless (giving state).many (giving state).kept;
}

-- The line of this number has this fault.
abbrev pub fault_turn : ℕ → LineFault → Turn
fault_turn number fault = record { said = fault_line number fault.kind fault.words; kept = None }

-- The line's event is read, unless it sends an id a second time.
abbrev pub read_turn : OrderState → ℕ → Words → Option Second → Turn
read_turn state number words None = giving_turn (after_reading state number words)
read_turn state number words (Some second) = fault_turn number (second_send second)

-- The line says these words, or has a fault.
abbrev pub words_turn : OrderState → ℕ → Result Words LineFault → Turn
words_turn state number (Err fault) = fault_turn number fault
words_turn state number (Ok words) = read_turn state number words (second_in state.announced number words.sends)

abbrev pub line_turn : OrderState → ℕ → List ℕ → Turn
line_turn state number line = words_turn state number (words_in line)

-- How many lines wait at the end of the log.
abbrev pub waiting_count : OrderState → ℕ
waiting_count state = min (waiting_in state.hosts) (2 ^ 64 - 1)

-- The id for which an event waits, where it isn't too long to be told.
abbrev pub told_id : Option (List ℕ) → List ℕ
told_id None = []
told_id (Some id) = if nat_le (length id) 1000 then id else []

-- The line that waits, of which it is told, and the id for which it waits.
abbrev pub waiting_line : ℕ → Option MessageEvent → ℕ
waiting_line last None = last
waiting_line last (Some event) = event.line

abbrev pub waiting_id : OrderState → Option MessageEvent → List ℕ
waiting_id state None = []
waiting_id state (Some event) = told_id (waited_for state event.receives)

-- The fault of the first line that waits: how many do, and for which id it waits.
abbrev pub waits_said : ℕ → OrderState → List ℕ
waits_said last state = fault_line (waiting_line last (first_to_wait state)) kind.Waits
    (decimal (waiting_count state) ++ codes " " ++ waiting_id state (first_to_wait state))

-- The words of the fault of the log's last line, where that is asked for: how many lines wait, and this one for this
-- id.
abbrev pub strict_words : ℕ → ℕ → List ℕ → List ℕ
strict_words count line id = codes "lines that wait for a message that nobody sent: "
    ++ (decimal count ++ (codes "; line " ++ (decimal line ++ (codes " waits for " ++ id))))

abbrev pub strict_said : ℕ → OrderState → List ℕ
strict_said last state = fault_line last kind.Order (strict_words (waiting_count state)
    (waiting_line last (first_to_wait state)) (waiting_id state (first_to_wait state)))

-- What is said of lines that wait at the end of the log.
abbrev pub lines_said : Unsent → ℕ → OrderState → List ℕ
lines_said rule.Told last state = waits_said last state
lines_said rule.Refused last state = strict_said last state
lines_said rule.Assumed last state = waits_said last state

abbrev pub waiting_said : Unsent → ℕ → OrderState → List ℕ
waiting_said unsent last state = if nat_lt 0 (waiting_in state.hosts) then lines_said unsent last state else []

-- What is said of what is kept, if anything is.
abbrev pub if_kept : Option OrderState → (OrderState → List ℕ) → List ℕ
if_kept None say = []
if_kept (Some kept) say = say kept

-- Where what nobody sent is assumed to be sent, the events that wait are given on without it. Those that wait then too
-- wait for each other.
abbrev pub assumed_said : ℕ → OrderState → List ℕ
assumed_said last state =
    let turn = giving_turn (assumed state) in
    turn.said ++ if_kept turn.kept (waiting_said rule.Told last)

-- What is said of the log's end, where the last line has this number.
abbrev pub end_said : Unsent → ℕ → OrderState → List ℕ
end_said rule.Told last state = waiting_said rule.Told last state
end_said rule.Refused last state = waiting_said rule.Refused last state
end_said rule.Assumed last state = assumed_said last state

-- What is said of lines, the first of which has this number, and of the log's end behind them, where the line before
-- has the number last.
unfoldable pub said_lines : Unsent → ℕ → OrderState → ℕ → List (List ℕ) → List ℕ
said_lines unsent last state number [] = end_said unsent last state
said_lines unsent last state number (line ∷ lines) =
    let turn = line_turn state number line in
    turn.said ++ if_kept turn.kept (λ kept. said_lines unsent number kept (number + 1) lines)

-- What is said of a line of this number by its turn, and of those behind it.
abbrev pub turn_said : Unsent → ℕ → Turn → List (List ℕ) → List ℕ
turn_said unsent number turn lines =
    turn.said ++ if_kept turn.kept (λ kept. said_lines unsent number kept (number + 1) lines)

-- What is said from now on: nothing where a fault was said; and where a line was read whose events are being given on,
-- what waits to be said of it, and then the others of its events.
abbrev pub says_at : Bool → Bool → Unsent → ℕ → List ℕ → OrderState → ℕ → List (List ℕ) → List ℕ
says_at true is_giving unsent last waits state number lines = []
says_at false false unsent last waits state number lines = said_lines unsent last state number lines
says_at false true unsent last waits state number [] = end_said unsent last state
says_at false true unsent last waits state number (line ∷ lines) =
    waits ++ turn_said unsent number (giving_turn state) lines

-- The line of an event that was given on and not said yet.
abbrev pub unsaid_line : List (List ℕ) → Option OrderedEvent → List ℕ
unsaid_line names None = []
unsaid_line names (Some one) = ordered_line names (seen_ordered one)

-- What waits to be said.
abbrev pub waits_in : MessageLog → List ℕ
waits_in log = log.said.items ++ unsaid_line (names_in log.order.hosts.items) log.unsaid

abbrev pub message_says : MessageLog → ℕ → List (List ℕ) → List ℕ
message_says log = says_at log.is_over log.is_giving log.unsent log.last (waits_in log) (state_of log.order)

-- A log without clocks, from its first line on.
abbrev pub message_lines : Unsent → ℕ → List (List ℕ) → List ℕ
message_lines unsent =
    said_lines unsent 0 (record { hosts = []; announced = λ id. None; sent = λ id. None })

-- Some events were given on, and what waits to be said grew by their lines: the same is said in the end.
pub record IsGivingOn (before : List ℕ) (old : OrderState) (after : List ℕ) (new : OrderState) : Type 0 where
  pub names : names_in new.hosts ≡ names_in old.hosts
  pub said : after ++ ordered_lines (names_in old.hosts) (giving new).given
      ≡ before ++ ordered_lines (names_in old.hosts) (giving old).given
  pub kept : (giving new).kept ≡ (giving old).kept
  pub many : (giving new).many ≡ (giving old).many

-- All were given on, or all up to one whose line has a number that no clock can have.
abbrev pub IsGivenOut : OrderState → Option ℕ → Type 0
IsGivenOut state many = giving state ≡ record { given = []; kept = state; many = many }

-- The event of a line was read, or the line's turn is its fault.
abbrev pub IsTurn : Result (Unit {0}) MessageFault → ℕ → Turn → OrderState → Type 0
IsTurn (Ok _) number turn kept = turn ≡ giving_turn kept
IsTurn (Err (Has what words)) number turn kept = turn ≡ fault_turn number (fault_of what words.now)
IsTurn (Err (Told what words)) number turn kept = turn ≡ fault_turn number (fault_of what (string_bytes words))
IsTurn (Err Memory) number turn kept = Unit {0}

-- Of a line that has this fault nothing else is said, nor of those behind it.
abbrev pub IsSaidOf : MessageFault → Saying → ℕ → List ℕ → Type 0
IsSaidOf (Has what words) say number line =
    (lines : List (List ℕ)) → say number (line ∷ lines) ≡ fault_line number what words.now
IsSaidOf (Told what words) say number line =
    (lines : List (List ℕ)) → say number (line ∷ lines) ≡ fault_line number what (string_bytes words)
IsSaidOf Memory say number line = Unit {0}

-- Of the line of this number, which was read, this is said, and then of those behind it the rest.
abbrev pub SaysOn : Saying → Saying → ℕ → List ℕ → Type 0
SaysOn old new number piece =
    (line : List ℕ) (lines : List (List ℕ)) → old number (line ∷ lines) ≡ piece ++ new (number + 1) lines
