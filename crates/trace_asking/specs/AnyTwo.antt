-- What is answered of any two of the hosts whose names match, at the end of a log.
use Rattle.std.specs.Prelude.{◌≡◌, ◌<◌, List, [], Result, Ok, Err, length, string_bytes}
use Rattle.trace_log.specs.Log.{Logged}
use Rattle.trace_condition.specs.Asked.{Text}
use Rattle.trace_condition.specs.Conditions.{host_of}
use Rattle.trace_pairs.specs.declared.hosts_condition.HostsCondition.{HostsCondition}
use Rattle.trace_pairs.specs.declared.moment.MatchedCount.{MatchedCount}
use Rattle.trace_pairs.specs.declared.moment.PairMoment.{PairMoment}
use Rattle.trace_pairs.specs.Hosts.{hosts_in}
use Rattle.trace_pairs.specs.Pairs.{IsLowestEarliest, NoPairHasOne}
use Rattle.trace_pairs.specs.Searching.{AreCounts, names_of, rule_in}
use Rattle.trace_detect.specs.declared.answer.TraceAnswer.{TraceAnswer}
use Rattle.trace_detect.specs.declared.fault.DetectFault.{DetectFault}
use Rattle.trace_detect.specs.declared.fault.DetectFault.TheVariants as fault
use Rattle.trace_detect.specs.Told.{Told, told_by}
use Rattle.trace_asking.specs.TwoTold.{no_pair_told, pair_told}

-- No two hosts have a moment, some host matches, and of each that does its events are counted.
pub record HasNoPairMoment (condition : HostsCondition) (logged : List Logged) (counts : List MatchedCount) : Type 0 where
  pub none : NoPairHasOne (rule_in condition) logged (hosts_in (names_of condition) logged)
  pub some : 0 < length (hosts_in (names_of condition) logged)
  pub counted : AreCounts (rule_in condition) logged (hosts_in (names_of condition) logged) counts

-- No host matches.
pub record MatchesNoHost (condition : HostsCondition) (logged : List Logged) (named : Text) : Type 0 where
  pub none : hosts_in (names_of condition) logged ≡ []
  pub of_hosts : named ≡ host_of condition.condition

-- What is told at the end of the log: the earliest moment of the first two hosts that have one; or that no two have one.
pub data IsLastOfTwo (condition : HostsCondition) (logged : List Logged) (told : Told) : Type 0 where
  Found : (moment : PairMoment)
      → IsLowestEarliest (rule_in condition) logged (hosts_in (names_of condition) logged) moment
      → told ≡ pair_told moment → IsLastOfTwo condition logged told
  NoMoment : (counts : List MatchedCount) → HasNoPairMoment condition logged counts → told ≡ no_pair_told counts
      → IsLastOfTwo condition logged told

-- What is answered at the end of the log.
abbrev pub AnswersLastOfTwo : HostsCondition → List Logged → Result TraceAnswer DetectFault → Type 0
AnswersLastOfTwo condition logged (Ok answer) = IsLastOfTwo condition logged (told_by answer)
AnswersLastOfTwo condition logged (Err (fault.NoHost named)) = MatchesNoHost condition logged (string_bytes named)
AnswersLastOfTwo condition logged (Err fault.Memory) = Unit {0}
AnswersLastOfTwo condition logged (Err _) = ⊥
