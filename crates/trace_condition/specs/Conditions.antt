-- The conditions that were read, and those that weren't.
use Rattle.std.specs.Prelude.{◌≡◌, ◌≢◌, ◌⊎◌, ◌≤◌, List, ◌∷◌, ◌++◌, length, map, All, AllPairs, string_bytes, Some, None}
use Rattle.std.specs.Prelude.{Result, Ok, Err}
use Rattle.std.specs.declared.vec.Vec.{Vec}
use Rattle.regex.specs.Patterns.{Re, default_config}
use Rattle.regex.specs.Strings.{regex_pattern, regex_source, regex_config, IsReadFromSource, IsDefaultFailure}
use Rattle.regex.specs.Failures.{IsPattern}
use Rattle.regex.specs.declared.error.Error.{Error}
use Rattle.regex.specs.declared.string.regex.Regex.{Regex}
use Rattle.regex.specs.declared.error.Error.TheVariants.{OutOfMemory}
use Rattle.trace_condition.specs.declared.fault.ConditionFault.{ConditionFault}
use Rattle.trace_condition.specs.declared.fault.ConditionFault.TheVariants.{Usage, Expression, Memory}
use Rattle.trace_condition.specs.declared.rule.Rule.{Rule}
use Rattle.trace_condition.specs.declared.rule.Rule.TheVariants.{While, FromUntil, At}
use Rattle.trace_condition.specs.declared.condition.Condition.{Condition}
use Rattle.trace_condition.specs.Asked.{Asked, Text, Saying, conditions_of}
use Rattle.trace_condition.specs.Rules.{map_rule, EachOf}

-- The host of a condition.
abbrev pub host_of : Condition → Text
host_of condition = string_bytes condition.host

-- What a condition says, by the texts of its expressions.
abbrev pub said_by : Condition → Saying
said_by condition = record { host = host_of condition; rule = map_rule regex_source condition.rule }

-- When a condition holds, by the patterns of its expressions.
abbrev pub rule_of : Condition → Rule Re
rule_of condition = map_rule regex_pattern condition.rule

-- An expression is what the grammar reads in its text, under the default options.
abbrev pub IsReadExpression : Regex → Type 0
IsReadExpression regex = (regex_config regex ≡ default_config) × IsReadFromSource regex

-- Each expression of a condition is what the grammar reads in its text.
abbrev pub IsRead : Condition → Type 0
IsRead condition = EachOf IsReadExpression condition.rule

-- The grammar reads each expression of what is said.
abbrev pub CanBeRead : Saying → Type 0
CanBeRead saying = EachOf (IsPattern default_config) saying.rule

-- The first expression of a rule that wasn't read has this error.
abbrev pub FailsBy : Error → Rule Text → Type 0
FailsBy why (While expression) = IsDefaultFailure expression why
FailsBy why (FromUntil from until) =
    IsDefaultFailure from why ⊎ (IsPattern default_config from × IsDefaultFailure until why)
FailsBy why (At expression) = IsDefaultFailure expression why

-- The first of the sayings that wasn't read is of this host, and has this error. Those before it were read.
pub record FailsFirst (host : Text) (why : Error) (sayings : List Saying) : Type 0 where
  pub before : List Saying
  pub failed : Saying
  pub others : List Saying
  pub split : sayings ≡ before ++ failed ∷ others
  pub were_read : All CanBeRead before
  pub of_host : failed.host ≡ host
  pub failed_by : FailsBy why failed.rule
  pub not_memory : why ≢ OutOfMemory

-- An expression of this host wasn't read, with this fault, or memory ran out.
abbrev pub RefusesExpression : Text → Text → ConditionFault → Type 0
RefusesExpression host source Usage = ⊥
RefusesExpression host source (Expression named why) =
    (string_bytes named ≡ host) × IsDefaultFailure source why × (why ≢ OutOfMemory)
RefusesExpression host source Memory = Unit {0}

-- It was read, or refused.
abbrev pub ReadsExpression : Text → Text → Result Regex ConditionFault → Type 0
ReadsExpression host source (Ok regex) = (regex_source regex ≡ source) × IsReadExpression regex
ReadsExpression host source (Err fault) = RefusesExpression host source fault

-- What is said of a host wasn't read, with this fault, or memory ran out.
abbrev pub RefusesSaying : Saying → ConditionFault → Type 0
RefusesSaying saying Usage = ⊥
RefusesSaying saying (Expression host why) =
    (string_bytes host ≡ saying.host) × FailsBy why saying.rule × (why ≢ OutOfMemory)
RefusesSaying saying Memory = Unit {0}

-- It was read as this condition, or refused.
abbrev pub ReadsSaying : Saying → Result Condition ConditionFault → Type 0
ReadsSaying saying (Ok condition) = (said_by condition ≡ saying) × IsRead condition
ReadsSaying saying (Err fault) = RefusesSaying saying fault

-- What is said of hosts wasn't read, with this fault, or memory ran out.
abbrev pub RefusesSayings : List Saying → ConditionFault → Type 0
RefusesSayings sayings Usage = ⊥
RefusesSayings sayings (Expression host why) = FailsFirst (string_bytes host) why sayings
RefusesSayings sayings Memory = Unit {0}

-- The words of a command line weren't read, with this fault: they say no conditions, or the first that wasn't read of
-- what they say has it, or memory ran out.
abbrev pub RefusesWords : Asked → ConditionFault → Type 0
RefusesWords asked Usage = conditions_of asked ≡ None
RefusesWords asked (Expression host why) =
    (sayings : List Saying) × (conditions_of asked ≡ Some sayings) × FailsFirst (string_bytes host) why sayings
RefusesWords asked Memory = Unit {0}

module _ {Z : Type 0} where
  -- What is said was read as these conditions, or refused.
  abbrev pub ReadsSayings : List Saying → Result (Vec Condition Z) ConditionFault → Type 0
  ReadsSayings sayings (Ok conditions) = (map said_by conditions.items ≡ sayings) × All IsRead conditions.items
  ReadsSayings sayings (Err fault) = RefusesSayings sayings fault

  -- The words of a command line were read as these conditions, or refused.
  abbrev pub ReadsWords : Asked → Result (Vec Condition Z) ConditionFault → Type 0
  ReadsWords asked (Ok conditions) =
      (conditions_of asked ≡ Some (map said_by conditions.items)) × All IsRead conditions.items
  ReadsWords asked (Err fault) = RefusesWords asked fault

-- There is a condition, and no two are of one host.
pub record HaveHosts (conditions : List Condition) : Type 0 where
  pub distinct : AllPairs (λ one other. one ≢ other) (map host_of conditions)
  pub some : 1 ≤ length conditions
