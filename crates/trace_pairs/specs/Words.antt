-- Which hosts words ask for, and under which rule.
use Rattle.std.specs.Prelude.{◌≡◌, ◌≢◌, ◌⊎◌, Option, None, Some, option_map, string_bytes, Result, Ok, Err}
use Rattle.std.specs.Borrow.{Bor}
use Rattle.regex.specs.Patterns.{default_config}
use Rattle.regex.specs.Strings.{regex_source, IsDefaultFailure}
use Rattle.regex.specs.Failures.{IsPattern}
use Rattle.regex.specs.declared.error.Error.{Error}
use Rattle.regex.specs.declared.error.Error.TheVariants.{OutOfMemory}
use Rattle.regex.specs.declared.string.regex.Regex.{Regex}
use Rattle.trace_condition.specs.declared.fault.ConditionFault.{ConditionFault}
use Rattle.trace_condition.specs.declared.fault.ConditionFault.TheVariants.{Usage, Expression, Memory}
use Rattle.trace_condition.specs.declared.rule.Rule.{Rule}
use Rattle.trace_condition.specs.declared.rule.Rule.TheVariants.{While, FromUntil, At}
use Rattle.trace_condition.specs.Asked.{Text, Word, Saying, word_in}
use Rattle.trace_condition.specs.Rules.{map_rule}
use Rattle.trace_condition.specs.Conditions.{FailsBy, IsRead, IsReadExpression, host_of, said_by}
use Rattle.trace_pairs.specs.declared.hosts_saying.HostsSaying.{HostsSaying}
use Rattle.trace_pairs.specs.declared.hosts_saying.WordParts.{WordParts}
use Rattle.trace_pairs.specs.declared.hosts_condition.HostsCondition.{HostsCondition}

-- The rule of a word's expression.
abbrev pub while_said : Word → Saying
while_said word = record { host = word.host; rule = While word.expression }

abbrev pub from_said : Text → Word → Saying
from_said until word = record { host = word.host; rule = FromUntil word.expression until }

abbrev pub at_said : Word → Saying
at_said word = record { host = word.host; rule = At word.expression }

-- What words say: the hosts by an expression, cut off at the first `=`, and the rule of each of them.
abbrev pub hosts_said : Rule Text → Option Saying
hosts_said (While word) = option_map while_said (word_in word)
hosts_said (FromUntil word until) = option_map (from_said until) (word_in word)
hosts_said (At word) = option_map at_said (word_in word)

-- The parts of a word, the hosts that are said, and the texts of words.
abbrev pub parts_in : Text → Option Word
parts_in text = word_in text

abbrev pub seen_parts : WordParts → Word
seen_parts parts = record { host = parts.hosts.now; expression = parts.expression.now }

abbrev pub seen_hosts : HostsSaying → Saying
seen_hosts saying = record { host = saying.hosts.now; rule = map_rule (λ text. text.now) saying.rule }

abbrev pub seen_words : Rule (Bor Text) → Rule Text
seen_words words = map_rule (λ text. text.now) words

-- It was read: the expression of the hosts, and those of the rule.
pub record AreReadHosts (saying : Saying) (condition : HostsCondition) : Type 0 where
  pub said : said_by condition.condition ≡ saying
  pub hosts : regex_source condition.hosts ≡ saying.host
  pub names : IsReadExpression condition.hosts
  pub read : IsRead condition.condition

-- The first expression that wasn't read has this error: that of the hosts, or the first of the rule.
abbrev pub FailsToRead : Error → Saying → Type 0
FailsToRead why saying = IsDefaultFailure saying.host why
    ⊎ (IsPattern default_config saying.host × FailsBy why saying.rule)

-- Words were read as a condition of hosts; or they say none; or an expression wasn't read; or memory ran out.
abbrev pub ReadsHosts : Rule Text → Result HostsCondition ConditionFault → Type 0
ReadsHosts words (Ok condition) = (saying : Saying) × (hosts_said words ≡ Some saying) × AreReadHosts saying condition
ReadsHosts words (Err Usage) = hosts_said words ≡ None
ReadsHosts words (Err (Expression host why)) = (saying : Saying) × (hosts_said words ≡ Some saying)
    × (string_bytes host ≡ saying.host) × FailsToRead why saying × (why ≢ OutOfMemory)
ReadsHosts words (Err Memory) = Unit {0}
