use Rattle.std.proofs.Common.{◌≡◌, length, All}
use Rattle.trace_pages.specs.declared.replying.Reply.TheVariants.{Open}
use Rattle.trace_pages.proofs.replying.open_replies.Given as goal

abbrev pub invariant-loop : goal.invariant-loop
invariant-loop l = (length l.replies.items ≡ l.counter) × All (λ reply. reply ≡ Open) l.replies.items
