use Rattle.std.proofs.Common.{◌≡◌, ◌++◌, take}
use Rattle.std.specs.List.{flat_map}
use Rattle.draw_page.specs.Data.{reply_words}
use Rattle.draw_page.proofs.words.push_replies.Given as goal

abbrev pub invariant-loop-reply : goal.invariant-loop-reply
invariant-loop-reply l = l.bytes.items ≡ l.initial.bytes.items ++ flat_map reply_words (take l.reply-index l.replies)
