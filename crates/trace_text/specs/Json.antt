-- An answer as a JSON object in one line.
use Rattle.std.specs.Prelude.{◌≡◌, ◌==◌, ℕ, List, [], ◌∷◌, ◌++◌, codes, length, Option, Some, None, if◌then◌else◌}
use Rattle.std.specs.Fmt.{decimal}
use Rattle.std.specs.List.{flat_map}
use Rattle.json.specs.Print.{print}
use Rattle.json.specs.Token.{Token, begin_object, end_object, begin_array, end_array, key, string, number}
use Rattle.json.specs.Written.{Written}
use Rattle.trace_detect.specs.Told.{Told, ToldMember, ToldCount, ToldRun, definite, found, none, possible}
use Rattle.trace_text.specs.Waiting.{ToldWaiting}

-- These tokens came to those that were written.
pub record Adds (old new : Written) (added : List Token) : Type 0 where
  pub before : new.before ≡ old.before
  pub tokens : new.tokens ≡ old.tokens ++ added

-- A member that is a text, or a number.
unfoldable pub text_tokens : List ℕ → List ℕ → List Token
text_tokens name text = key name ∷ string text ∷ []

unfoldable pub number_tokens : List ℕ → ℕ → List Token
number_tokens name count = key name ∷ number (decimal count) ∷ []

-- A member of a moment.
abbrev pub member_tokens : ToldMember → List Token
member_tokens member = begin_object ∷ (text_tokens (codes "host") member.host
    ++ (number_tokens (codes "line") member.line ++ (text_tokens (codes "event") member.text ++ end_object ∷ [])))

abbrev pub members_tokens : List ToldMember → List Token
members_tokens members = flat_map member_tokens members

-- A host, how many events it has, and at how many its condition holds.
abbrev pub host_tokens : ToldCount → List Token
host_tokens count = begin_object ∷ (text_tokens (codes "host") count.host
    ++ (number_tokens (codes "events") count.events
    ++ (number_tokens (codes "matched") count.matched ++ end_object ∷ [])))

abbrev pub hosts_tokens : List ToldCount → List Token
hosts_tokens counts = flat_map host_tokens counts

-- A run of a host; `over` stands there where it is known.
abbrev pub over_tokens : Option ℕ → List Token
over_tokens None = []
over_tokens (Some over) = number_tokens (codes "over") over

abbrev pub run_tokens : ToldRun → List Token
run_tokens run = begin_object ∷ (text_tokens (codes "host") run.host
    ++ (number_tokens (codes "line") run.line ++ (over_tokens run.over
    ++ (text_tokens (codes "event") run.text ++ end_object ∷ []))))

abbrev pub runs_tokens : List ToldRun → List Token
runs_tokens runs = flat_map run_tokens runs

-- An answer by this name, and the members of a moment.
abbrev pub moment_tokens : List ℕ → List ToldMember → List Token
moment_tokens name members = text_tokens (codes "answer") name
    ++ (key (codes "moment") ∷ begin_array ∷ (members_tokens members ++ end_array ∷ []))

-- The answer, and the members of the moment, how often each condition held, or the runs.
abbrev pub told_tokens : Told → List Token
told_tokens (found members) = moment_tokens (codes "found") members
told_tokens (none counts) = text_tokens (codes "answer") (codes "none")
    ++ (key (codes "hosts") ∷ begin_array ∷ (hosts_tokens counts ++ end_array ∷ []))
told_tokens (definite runs) = text_tokens (codes "answer") (codes "definitely")
    ++ (key (codes "runs") ∷ begin_array ∷ (runs_tokens runs ++ end_array ∷ []))
told_tokens (possible members) = moment_tokens (codes "possibly") members

-- The name of the question, where it has one.
abbrev pub name_tokens : Option (List ℕ) → List Token
name_tokens None = []
name_tokens (Some name) = text_tokens (codes "question") name

-- Why the answer stands, a sentence a line, where that was asked.
abbrev pub why_tokens : List ℕ → List Token
why_tokens why = if length why == 0 then [] else text_tokens (codes "why") why

-- An answer, and why it stands.
abbrev pub answer_tokens : Option (List ℕ) → Told → List ℕ → List Token
answer_tokens name told why =
    begin_object ∷ (name_tokens name ++ (told_tokens told ++ (why_tokens why ++ end_object ∷ [])))

-- That an answer isn't known, and the lines that wait.
abbrev pub unknown_tokens : ToldWaiting → List Token
unknown_tokens waiting = text_tokens (codes "answer") (codes "unknown")
    ++ (number_tokens (codes "line") waiting.line ++ (text_tokens (codes "id") waiting.id
    ++ number_tokens (codes "waiting") waiting.count))

abbrev pub unknown_object : Option (List ℕ) → ToldWaiting → List Token
unknown_object name waiting = begin_object ∷ (name_tokens name ++ (unknown_tokens waiting ++ end_object ∷ []))

-- How many moments there are.
abbrev pub moments_tokens : ℕ → List Token
moments_tokens count = begin_object ∷ (number_tokens (codes "moments") count ++ end_object ∷ [])

-- What is printed of tokens, and a line feed.
abbrev pub json_line : List Token → List ℕ
json_line tokens = print tokens ++ 10 ∷ []
