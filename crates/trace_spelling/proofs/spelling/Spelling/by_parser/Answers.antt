use Rattle.std.proofs.Common.{refl}
use Rattle.trace_spelling.proofs.spelling.Spelling.by_parser.Goals as goal

pub returns : goal.returns
returns c = record {
  regex = c.in-Ok.regex;
  groups = c.in_ok-groups.groups;
  found = refl;
  read = c.in-Ok.ensures.read;
  config = c.in-Ok.ensures.config;
  named = c.in_ok-groups.ensures;
  lined = c.lines_of-lines.ensures;
  skipping = refl;
}
