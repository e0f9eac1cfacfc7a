-- What a line makes known.
use Rattle.trace_spelling.proofs.Words.{◌≡◌, ◌∙◌, ◌<◌, ◌≤◌, ℕ, true, false, List, [], ◌∷◌, ◌++◌, Option, Some}
use Rattle.trace_spelling.proofs.Words.{None}
use Rattle.trace_spelling.proofs.Words.{length, suc, drop, refl, sym, ap, arith, lt-leb, lt-ltb}
use Rattle.trace_spelling.proofs.Words.{le-leb}
use Rattle.trace_spelling.proofs.Words.{fault_line, too_long, Text, Long, most_bytes, Wait, number_behind, Rule, Turn}
use Rattle.trace_spelling.proofs.Words.{line_turn, full_turn, said_lines, spelled, text_of}
use Rattle.std.specs.Option.{is_some}
use Rattle.trace_rewrite.specs.Saying.{SaysLine}
use Rattle.trace_spelling.specs.Events.{Spelled}
use Rattle.trace_spelling.specs.Unmatched.{unmatched}
use Rattle.trace_spelling.specs.Windows.{event_said, seen_wait, seen_waits}
use Rattle.trace_spelling.specs.declared.waiting.WaitingLine.{WaitingLine}
use Rattle.std.proofs.lemmas.List.{length-map}
use Rattle.std.proofs.lemmas.Bool.Decides.{nat_tests}
use Rattle.std.specs.Prelude.{◌==◌}

abbrev turn_of : List ℕ → List Wait → Turn
turn_of said waits = record { said = said; waits = waits }

-- The lines spell an event.
pub event_turn : (rule : Rule) (waits : List Wait) (found : Option Spelled) → is_some found ≡ true
    → full_turn rule waits found ≡ record { said = event_said waits found; waits = [] }
event_turn rule waits None some = cc
event_turn rule waits (Some event) some = refl

-- They spell none, and the first is passed over.
pub skip_turn : (rule : Rule) (waits : List Wait) (found : Option Spelled) → is_some found ≡ false
    → rule.skips ≡ true
    → full_turn rule waits found ≡ record { said = event_said waits found; waits = drop 1 waits }
skip_turn rule waits None none skips = rw skips refl
skip_turn rule waits (Some event) none skips = cc

-- They spell none, and the first has a fault.
pub fault_turn : (rule : Rule) (waits : List Wait) (found : Option Spelled) → is_some found ≡ false
    → rule.skips ≡ false
    → full_turn rule waits found
    ≡ record { said = fault_line (number_behind waits 0) Text (unmatched rule.way (text_of waits)); waits = [] }
fault_turn rule waits None none strict = rw strict refl
fault_turn rule waits (Some event) none strict = cc

-- Where they spell none, no event is said.
pub none_said : (waits : List Wait) (found : Option Spelled) → is_some found ≡ false → event_said waits found ≡ []
none_said waits None none = refl
none_said waits (Some event) none = cc

-- A line that is too long.
pub long_turn : (rule : Rule) (waits : List Wait) (number : ℕ) (line : List ℕ) → most_bytes < length line
    → line_turn rule waits number line ≡ record { said = fault_line number Long too_long; waits = [] }
long_turn rule waits number line long = rw (lt-leb (length line) most_bytes long) refl

-- A line that waits for others.
pub short_turn : (rule : Rule) (waits : List Wait) (number : ℕ) (line : List ℕ) → length line ≤ most_bytes
    → length (waits ++ (number, line) ∷ []) < rule.lines
    → line_turn rule waits number line ≡ record { said = []; waits = waits ++ (number, line) ∷ [] }
short_turn rule waits number line short few =
    rw (le-leb (length line) most_bytes short, lt-ltb (length (waits ++ (number, line) ∷ [])) rule.lines few) refl

-- A line with which as many lines wait as an event has.
pub whole_turn : (rule : Rule) (waits : List Wait) (number : ℕ) (line : List ℕ) → length line ≤ most_bytes
    → rule.lines ≤ length (waits ++ (number, line) ∷ [])
    → line_turn rule waits number line ≡ full_turn rule (waits ++ (number, line) ∷ [])
    (spelled rule.way (text_of (waits ++ (number, line) ∷ [])))
whole_turn rule waits number line short enough =
    rw (
      le-leb (length line) most_bytes short,
      lt-leb (suc (length (waits ++ (number, line) ∷ []))) rule.lines
          (omega arith),
    ) refl

-- What a turn says is said of its line.
pub says_turn : (rule rule' : Rule) (waits waits' : List Wait) (number : ℕ) (line out out' : List ℕ) (turn : Turn)
    → line_turn rule waits number line ≡ turn → rule' ≡ rule → waits' ≡ turn.waits → out' ≡ out ++ turn.said
    → SaysLine (said_lines rule waits) (said_lines rule' waits') number line out out'
unfolding said_lines
says_turn rule rule' waits waits' number line out out' turn is same next added = record {
  piece = turn.said;
  added = added;
  said = λ lines. rw (is, same, next) refl;
}

-- What lines that are as many as an event has make known.
abbrev pub whole : Rule → List Wait → Turn
whole rule waits = full_turn rule waits (spelled rule.way (text_of waits))

pub same_whole : (rule rule' : Rule) (waits waits' : List Wait) → rule' ≡ rule → waits' ≡ waits
    → whole rule' waits' ≡ whole rule waits
same_whole rule rule' waits waits' same next = ap (λ r. whole r waits') same ∙ ap (whole rule) next

not_empty : (count : ℕ) → (count == 0) ≡ true → 0 < count → ⊥
not_empty count none some = grind (arith, nat_tests)

empty : (count : ℕ) → (count == 0) ≡ false → count ≡ 0 → ⊥
empty count some none = grind (arith, nat_tests)

-- How many lines wait.
pub few_wait : (rule rule' : Rule) (lines : List WaitingLine) (waits : List Wait) → rule' ≡ rule
    → seen_waits lines ≡ waits → length lines < rule'.lines → length waits < rule.lines
few_wait rule rule' lines waits same next few =
    omega (arith, ap length next, length-map lines seen_wait, ap (λ r. r.lines) same)

pub many_wait : (rule rule' : Rule) (lines : List WaitingLine) (waits : List Wait) → rule' ≡ rule
    → seen_waits lines ≡ waits → rule'.lines ≤ length lines → rule.lines ≤ length waits
many_wait rule rule' lines waits same next many =
    omega (arith, ap length next, length-map lines seen_wait, ap (λ r. r.lines) same)

pub none_wait : (count : ℕ) (lines : List WaitingLine) → length lines ≡ count → (count == 0) ≡ true
    → seen_waits lines ≡ []
none_wait count [] is none = refl
none_wait count (one ∷ others) is none = absurd (not_empty count none (omega (arith, is)))

pub some_wait : (count : ℕ) (lines : List WaitingLine) → length lines ≡ count → (count == 0) ≡ false
    → 0 < length (seen_waits lines)
some_wait count [] is some = absurd (empty count some (sym is))
some_wait count (one ∷ others) is some = omega arith
