-- What a search takes of the events of a log, under the conditions of hosts.
use Rattle.std.specs.Prelude.{ℕ, ◌&&◌, List, [], ◌∷◌, ◌++◌, map, filter, length, find, Option, option_map}
use Rattle.std.specs.Option.{option_to_list}
use Rattle.std.specs.Str.{bytes_eq}
use Rattle.trace_log.specs.Log.{Logged}
use Rattle.trace_moment.specs.declared.watched.Lasting.{Lasting}
use Rattle.trace_moment.specs.declared.watched.Lasting.TheVariants as lasting
use Rattle.trace_moment.specs.Moment.{HostWatch, Taken}
use Rattle.trace_condition.specs.declared.condition.Condition.{Condition}
use Rattle.trace_condition.specs.declared.rule.Rule.{Rule}
use Rattle.trace_condition.specs.declared.rule.Rule.TheVariants.{At}
use Rattle.trace_condition.specs.Conditions.{host_of, rule_of}
use Rattle.trace_condition.specs.Holding.{holds_at_last}

-- How long the states of a rule last.
abbrev pub lasting_of : {E : Type 0} → Rule E → Lasting
lasting_of (At expression) = lasting.At
lasting_of rule = lasting.While

-- The hosts that conditions watch.
abbrev pub watch_of : Condition → HostWatch
watch_of condition = record { host = host_of condition; lasting = lasting_of condition.rule }

abbrev pub watches : List Condition → List HostWatch
watches conditions = map watch_of conditions

-- The events of a host, and their texts.
abbrev pub events_at : List ℕ → List Logged → List Logged
events_at host logged = filter (λ one. bytes_eq one.event.host host) logged

abbrev pub texts_at : List ℕ → List Logged → List (List ℕ)
texts_at host logged = map (λ one. one.event.text) (events_at host logged)

-- The condition of a host, if it has one.
abbrev pub condition_at : List ℕ → List Condition → Option Condition
condition_at host conditions = find (λ condition. bytes_eq (host_of condition) host) conditions

-- An event that comes after others, with whether its host's condition holds at it. One of another host is passed over.
abbrev pub taken_after : List Condition → List Logged → Logged → Option Taken
taken_after conditions before one = option_map
    (λ condition. record {
      logged = one;
      holds = holds_at_last (rule_of condition) (texts_at one.event.host (before ++ one ∷ []));
    }) (condition_at one.event.host conditions)

-- The events that a search takes, after those before.
unfoldable pub taken_from : List Condition → List Logged → List Logged → List Taken
taken_from conditions before [] = []
taken_from conditions before (one ∷ later) =
    option_to_list (taken_after conditions before one) ++ taken_from conditions (before ++ one ∷ []) later

abbrev pub taken_of : List Condition → List Logged → List Taken
taken_of conditions logged = taken_from conditions [] logged

-- How many events a host has, and at how many of those that were taken its condition holds.
abbrev pub count_events : List ℕ → List Logged → ℕ
count_events host logged = length (events_at host logged)

abbrev pub count_matched : List ℕ → List Taken → ℕ
count_matched host taken = length (filter (λ one. one.holds && bytes_eq one.logged.event.host host) taken)
