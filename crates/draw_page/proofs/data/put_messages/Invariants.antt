use Rattle.std.proofs.Common.{take}
use Rattle.std.specs.List.{flat_map}
use Rattle.draw_page.specs.Adding.{Adds}
use Rattle.draw_page.specs.Messages.{message_tokens}
use Rattle.draw_page.proofs.data.put_messages.Given as goal

abbrev pub invariant-loop-message : goal.invariant-loop-message
invariant-loop-message l = Adds l.initial.out l.out (flat_map message_tokens (take l.message-index l.message-items))
