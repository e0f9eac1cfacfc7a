use Rattle.std.proofs.Common.{take}
use Rattle.std.specs.List.{flat_map}
use Rattle.draw_page.specs.Adding.{Adds}
use Rattle.draw_page.specs.Model.{condition_tokens}
use Rattle.draw_page.proofs.reply.put_conditions.Given as goal

abbrev pub invariant-loop-watch : goal.invariant-loop-watch
invariant-loop-watch l = Adds l.initial.out l.out (flat_map condition_tokens (take l.watch-index l.watches))
