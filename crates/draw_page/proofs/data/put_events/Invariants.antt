use Rattle.std.proofs.Common.{take}
use Rattle.std.specs.List.{flat_map}
use Rattle.draw_page.specs.Adding.{Adds}
use Rattle.draw_page.specs.Events.{event_tokens}
use Rattle.draw_page.proofs.data.put_events.Given as goal

abbrev pub invariant-loop-event : goal.invariant-loop-event
invariant-loop-event l = Adds l.initial.out l.out (flat_map event_tokens (take l.event-index l.events))
