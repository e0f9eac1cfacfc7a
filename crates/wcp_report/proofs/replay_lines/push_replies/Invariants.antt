use Rattle.std.proofs.Common.{◌≡◌, ◌++◌, string_bytes, take}
use Rattle.std.specs.List.{flat_map}
use Rattle.wcp_report.specs.ReplyText.{reply_line}
use Rattle.wcp_report.proofs.replay_lines.push_replies.Given as goal

abbrev pub invariant-loop-reply : goal.invariant-loop-reply
invariant-loop-reply l =
    string_bytes l.text ≡ string_bytes l.fn.text ++ flat_map reply_line (take l.reply-index l.replies)
