-- The numbered lines that are said, each with its LF.
use Rattle.std.specs.Prelude.{◌≡◌, ℕ, ◌<◌, ◌==◌, Some, Ok, List, [], ◌∷◌, ◌++◌, map, length, nat_le, decimal}
use Rattle.std.specs.Prelude.{codes, if◌then◌else◌}
use Rattle.json.specs.Json.{Json, object, string, no_members, member, document, max_depth}
use Rattle.json.specs.Print.{print}
use Rattle.json.specs.Tree.{json_tokens, depth}
use Rattle.wcp_io.specs.Lines.{line_feed}
use Rattle.trace_log.specs.declared.fault.LogFaultKind.{LogFaultKind}
use Rattle.trace_log.specs.declared.fault.LogFaultKind.TheVariants as kind
use Rattle.trace_log.specs.Event.{most_bytes, space}
use Rattle.trace_log.specs.Numbered.{numbered_in, fault_mark, name_of}

-- An event, as an object of three members.
abbrev pub event_object : List ℕ → Json → List ℕ → Json
event_object host clock text =
    object (member (codes "host") (string host) (member (codes "clock") clock
    (member (codes "event") (string text) no_members)))

-- An event, as a JSON text.
abbrev pub event_json : List ℕ → Json → List ℕ → List ℕ
event_json host clock text = print (json_tokens (event_object host clock text))

-- Words without LF: a space stands in the place of each.
abbrev pub in_one_line : List ℕ → List ℕ
in_one_line words = map (λ byte. if byte == line_feed then space else byte) words

-- The line that says that the line of this number has a fault, in these words.
unfoldable pub fault_line : ℕ → LogFaultKind → List ℕ → List ℕ
fault_line number what words =
    decimal number ++ (fault_mark ∷ (name_of what ++ (space ∷ (in_one_line words ++ line_feed ∷ []))))

-- The words of a line that is too long.
abbrev pub too_long : List ℕ
too_long = codes "more than 65536 bytes"

-- What says the event of the line of this number.
abbrev pub event_text : ℕ → List ℕ → Json → List ℕ → List ℕ
event_text number host clock text = decimal number ++ (space ∷ event_json host clock text)

-- The line that says the event of the line of this number, and its fault where the event takes more bytes than a line
-- may have.
unfoldable pub event_line : ℕ → List ℕ → Json → List ℕ → List ℕ
event_line number host clock text =
    let line = event_text number host clock text in
    if nat_le (length line) most_bytes then line ++ line_feed ∷ [] else fault_line number kind.Long too_long

-- A log reads a line as the event of the line of this number: a JSON object of its three members.
pub record SaysEvent (number : ℕ) (host : List ℕ) (clock : Json) (text line : List ℕ) : Type 0 where
  pub json : List ℕ
  pub numbered : numbered_in line ≡ Ok (record { number = number; says = Ok json })
  pub object : depth clock < max_depth → document json ≡ Some (event_object host clock text)
