-- What a search of two hosts takes of a log, under one rule.
use Rattle.std.specs.Prelude.{ℕ, ◌||◌, Bool, List, [], ◌∷◌, ◌++◌, map, filter}
use Rattle.std.specs.Str.{bytes_eq}
use Rattle.regex.specs.Patterns.{Re}
use Rattle.trace_log.specs.Log.{Logged}
use Rattle.trace_moment.specs.declared.watched.Lasting.{Lasting}
use Rattle.trace_moment.specs.declared.watched.Lasting.TheVariants as lasting
use Rattle.trace_moment.specs.Moment.{HostWatch, Taken}
use Rattle.trace_condition.specs.declared.rule.Rule.{Rule}
use Rattle.trace_condition.specs.declared.rule.Rule.TheVariants.{At}
use Rattle.trace_condition.specs.Asked.{Text}
use Rattle.trace_condition.specs.Holding.{holds_at_last}

-- How long the states of a rule last.
abbrev pub lasting_of : {E : Type 0} → Rule E → Lasting
lasting_of (At expression) = lasting.At
lasting_of rule = lasting.While

-- Two hosts that are watched under one rule.
abbrev pub watches_of : Rule Re → Text → Text → List HostWatch
watches_of rule first second =
    record { host = first; lasting = lasting_of rule } ∷ record { host = second; lasting = lasting_of rule } ∷ []

-- The texts of a host's events.
abbrev pub texts_at : Text → List Logged → List Text
texts_at host logged = map (λ one. one.event.text) (filter (λ one. bytes_eq one.event.host host) logged)

-- An event that comes after others, with whether the rule holds at it, by the texts of its host's events so far.
abbrev pub judged_after : Rule Re → List Logged → Logged → Taken
judged_after rule before one = record {
  logged = one;
  holds = holds_at_last rule (texts_at one.event.host (before ++ one ∷ []));
}

-- Each event of a log, after those before.
unfoldable pub judged_from : Rule Re → List Logged → List Logged → List Taken
judged_from rule before [] = []
judged_from rule before (one ∷ later) = judged_after rule before one ∷ judged_from rule (before ++ one ∷ []) later

abbrev pub judged : Rule Re → List Logged → List Taken
judged rule logged = judged_from rule [] logged

-- Those of one host, and those of two.
abbrev pub is_at : Text → Taken → Bool
is_at host one = bytes_eq one.logged.event.host host

abbrev pub is_at_one : Text → Text → Taken → Bool
is_at_one first second one = is_at first one || is_at second one

abbrev pub taken_at : Rule Re → List Logged → Text → List Taken
taken_at rule logged host = filter (is_at host) (judged rule logged)

abbrev pub taken_by : Rule Re → List Logged → Text → Text → List Taken
taken_by rule logged first second = filter (is_at_one first second) (judged rule logged)
