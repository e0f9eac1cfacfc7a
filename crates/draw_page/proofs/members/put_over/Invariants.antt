use Rattle.std.proofs.Common.{take}
use Rattle.std.specs.List.{flat_map}
use Rattle.draw_page.specs.Adding.{Adds}
use Rattle.draw_page.specs.Model.{line_tokens}
use Rattle.draw_page.proofs.members.put_over.Given as goal

abbrev pub invariant-loop-line : goal.invariant-loop-line
invariant-loop-line l = Adds l.initial.out l.out (flat_map line_tokens (take l.line-index l.over))
