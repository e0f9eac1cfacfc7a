-- What is answered to a question about a log: the moment, the runs that must have overlapped, or that there is none.
use Rattle.std.specs.Prelude.{ℕ, ◌+◌, List, [], ◌∷◌, Option, map, string_bytes}
use Rattle.trace_log.specs.Log.{Logged}
use Rattle.trace_condition.specs.declared.condition.Condition.{Condition}
use Rattle.trace_condition.specs.Conditions.{host_of}
use Rattle.trace_detect.specs.declared.answer.TraceAnswer.{TraceAnswer}
use Rattle.trace_detect.specs.declared.answer.TraceAnswer.TheVariants.{Definite, Found, NoMoment, Possible}
use Rattle.trace_detect.specs.declared.answer.MomentMember.{MomentMember}
use Rattle.trace_detect.specs.declared.answer.HostCount.{HostCount}
use Rattle.trace_detect.specs.declared.answer.HostRun.{HostRun}
use Rattle.trace_detect.specs.Watching.{count_events, count_matched, taken_of}

-- A member of a moment: a host, and the line and the text of its event.
pub record ToldMember : Type 0 where
  pub host : List ℕ
  pub line : ℕ
  pub text : List ℕ

-- A host, how many events it has, and at how many of them its condition holds.
pub record ToldCount : Type 0 where
  pub host : List ℕ
  pub events : ℕ
  pub matched : ℕ

-- A run of a host: the line and the text of its first event, and the line of the event at which it is over, where that
-- is known.
pub record ToldRun : Type 0 where
  pub host : List ℕ
  pub line : ℕ
  pub over : Option ℕ
  pub text : List ℕ

-- What is told: a moment, a member for each condition, or that there is none, with how often each condition held; or
-- that the conditions must have held at once, with a run for each, or that they could have, with a moment.
pub data Told : Type 0 where
  found : List ToldMember → Told
  none : List ToldCount → Told
  definite : List ToldRun → Told
  possible : List ToldMember → Told

-- The member of a host and its event.
abbrev pub member_of : List ℕ → Logged → ToldMember
member_of host logged = record { host = host; line = logged.line; text = logged.event.text }

-- A member for each condition, whose host stands at the place p and on.
abbrev pub members_from : ℕ → List Condition → (ℕ → Logged) → List ToldMember
members_from p [] moment = []
members_from p (condition ∷ conditions) moment =
    member_of (host_of condition) (moment p) ∷ members_from (p + 1) conditions moment

-- A moment is told.
abbrev pub found_told : List Condition → (ℕ → Logged) → Told
found_told conditions moment = found (members_from 0 conditions moment)

-- How many events the host of a condition has, and at how many its condition holds.
abbrev pub count_of : List Condition → List Logged → Condition → ToldCount
count_of conditions logged condition = record {
  host = host_of condition;
  events = count_events (host_of condition) logged;
  matched = count_matched (host_of condition) (taken_of conditions logged);
}

-- It is told that there is no moment.
abbrev pub none_told : List Condition → List Logged → Told
none_told conditions logged = none (map (count_of conditions logged) conditions)

-- What an answer tells.
abbrev pub seen_member : MomentMember → ToldMember
seen_member member = record { host = string_bytes member.host; line = member.line; text = string_bytes member.text }

abbrev pub seen_count : HostCount → ToldCount
seen_count count = record { host = string_bytes count.host; events = count.events; matched = count.matched }

abbrev pub seen_run : HostRun → ToldRun
seen_run run = record {
  host = string_bytes run.host;
  line = run.line;
  over = run.over;
  text = string_bytes run.text;
}

abbrev pub told_by : TraceAnswer → Told
told_by (Found members) = found (map seen_member members.items)
told_by (NoMoment counts) = none (map seen_count counts.items)
told_by (Definite runs) = definite (map seen_run runs.items)
told_by (Possible members) = possible (map seen_member members.items)
