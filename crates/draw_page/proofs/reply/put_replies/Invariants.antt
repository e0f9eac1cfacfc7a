use Rattle.std.proofs.Common.{take}
use Rattle.std.specs.List.{flat_map}
use Rattle.draw_page.specs.Adding.{Adds}
use Rattle.draw_page.specs.Model.{reply_tokens}
use Rattle.draw_page.proofs.reply.put_replies.Given as goal

abbrev pub invariant-loop-reply : goal.invariant-loop-reply
invariant-loop-reply l = Adds l.initial.out l.out (flat_map reply_tokens (take l.reply-index l.replies))
