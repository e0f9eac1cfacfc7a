-- What a spelling says of the lines of a log.
use Rattle.std.specs.Prelude.{ℕ, ◌+◌, Bool, List, [], ◌∷◌, ◌++◌, length, drop, nat_le, nat_lt, Option, Some, None}
use Rattle.std.specs.Prelude.{codes, if◌then◌else◌}
use Rattle.trace_log.specs.declared.fault.LogFaultKind.TheVariants as kind
use Rattle.trace_log.specs.Event.{most_bytes}
use Rattle.trace_rewrite.specs.Lines.{fault_line, too_long}
use Rattle.trace_spelling.specs.declared.rewriter.SpellingRewriter.{SpellingRewriter}
use Rattle.trace_spelling.specs.Events.{Spelled}
use Rattle.trace_spelling.specs.Ways.{Way, spelled, seen_way}
use Rattle.trace_spelling.specs.Unmatched.{unmatched}
use Rattle.trace_spelling.specs.Windows.{Wait, joined, number_behind, event_said, seen_waits}

-- How a log is spelled: how an event is found, in how many lines, and whether lines that spell none are passed over.
pub record Rule : Type 0 where
  pub way : Way
  pub lines : ℕ
  pub skips : Bool

-- What is said, and the lines that wait then.
pub record Turn : Type 0 where
  pub said : List ℕ
  pub waits : List Wait

abbrev say : List ℕ → List Wait → Turn
say said waits = record { said = said; waits = waits }

-- The text of the lines of an event: LF stands between them.
abbrev pub text_of : List Wait → List ℕ
text_of waits = drop 1 (joined waits)

-- As many lines wait as an event has: the event that they spell; and else the first is passed over, or has a fault.
abbrev pub full_turn : Rule → List Wait → Option Spelled → Turn
full_turn rule waits (Some event) = say (event_said waits (Some event)) []
full_turn rule waits None =
    if rule.skips then say [] (drop 1 waits)
    else say (fault_line (number_behind waits 0) kind.Text (unmatched rule.way (text_of waits))) []

-- One line more waits.
abbrev pub wait_turn : Rule → List Wait → Turn
wait_turn rule waits =
    if nat_lt (length waits) rule.lines then say [] waits
    else full_turn rule waits (spelled rule.way (text_of waits))

-- What the line of this number makes known, where these wait.
abbrev pub line_turn : Rule → List Wait → ℕ → List ℕ → Turn
line_turn rule waits number line =
    if nat_le (length line) most_bytes then wait_turn rule (waits ++ (number, line) ∷ [])
    else say (fault_line number kind.Long too_long) []

-- What the end of the log makes known: lines that wait are too few for an event.
abbrev pub end_said : Rule → List Wait → List ℕ
end_said rule waits =
    if rule.skips then [] else if nat_lt 0 (length waits)
    then fault_line (number_behind waits 0) kind.Text (codes "the log ends before the other lines of this event")
    else []

-- What is said of lines, the first of which has this number, and of the log's end behind them.
unfoldable pub said_lines : Rule → List Wait → ℕ → List (List ℕ) → List ℕ
said_lines rule waits number [] = end_said rule waits
said_lines rule waits number (line ∷ lines) =
    let turn = line_turn rule waits number line in turn.said ++ said_lines rule turn.waits (number + 1) lines

-- The rule of a rewriter.
abbrev pub rule_of : SpellingRewriter → Rule
rule_of rewriter = record { way = seen_way rewriter.finder; lines = rewriter.lines; skips = rewriter.skips }

-- What it says from now on.
abbrev pub rewriter_says : SpellingRewriter → ℕ → List (List ℕ) → List ℕ
rewriter_says rewriter = said_lines (rule_of rewriter) (seen_waits rewriter.waits.items)
