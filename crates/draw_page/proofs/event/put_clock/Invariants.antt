use Rattle.std.proofs.Common.{take}
use Rattle.std.specs.List.{flat_map}
use Rattle.draw_page.specs.Adding.{Adds}
use Rattle.draw_page.specs.Events.{entry_tokens}
use Rattle.draw_page.proofs.event.put_clock.Given as goal

abbrev pub invariant-loop-entry : goal.invariant-loop-entry
invariant-loop-entry l = Adds l.initial.out l.out (flat_map entry_tokens (take l.entry-index l.clock))
