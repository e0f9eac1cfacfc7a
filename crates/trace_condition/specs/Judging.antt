-- What a judge of a host's events has judged.
use Rattle.std.specs.Prelude.{◌≡◌, List}
use Rattle.regex.specs.Patterns.{Re}
use Rattle.regex.specs.Strings.{matcher_pattern}
use Rattle.regex.specs.declared.string.matcher.Matcher.{Matcher}
use Rattle.trace_condition.specs.declared.rule.Rule.{Rule}
use Rattle.trace_condition.specs.declared.judge.Judge.{Judge}
use Rattle.trace_condition.specs.Asked.{Text}
use Rattle.trace_condition.specs.Rules.{map_rule}
use Rattle.trace_condition.specs.Holding.{holds_at_last}

-- The patterns of a rule of matchers.
abbrev pub patterns_of : Rule Matcher → Rule Re
patterns_of rule = map_rule matcher_pattern rule

-- A judge of this rule has judged the events with these texts, and knows whether the condition held at the last one.
pub record HasJudged (rule : Rule Re) (texts : List Text) (judge : Judge) : Type 0 where
  pub by_rule : patterns_of judge.rule ≡ rule
  pub knows_last : judge.held ≡ holds_at_last rule texts
