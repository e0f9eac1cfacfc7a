-- The groups of an expression that give the parts of an event.
use Rattle.std.specs.Prelude.{Some, codes}
use Rattle.regex.specs.Names.{IsIndexOf}
use Rattle.regex.specs.Strings.{regex_names}
use Rattle.regex.specs.declared.string.regex.Regex.{Regex}
use Rattle.trace_spelling.specs.declared.groups.Groups.{Groups}

pub record NamesGroups (regex : Regex) (groups : Groups) : Type 0 where
  pub host : IsIndexOf (regex_names regex) (codes "host") (Some groups.host)
  pub clock : IsIndexOf (regex_names regex) (codes "clock") (Some groups.clock)
  pub event : IsIndexOf (regex_names regex) (codes "event") (Some groups.event)
