use Rattle.std.proofs.Common.{◌≡◌, length}
use Rattle.draw_picture.proofs.messages.received_sends.Given as goal

abbrev pub invariant-loop-place : goal.invariant-loop-place
invariant-loop-place l = length l.received.items ≡ length l.order
