use Rattle.std.specs.Prelude.{ℕ, List, [], ◌∷◌, ◌++◌, codes}
use Rattle.std.specs.Fmt.{decimal}
use Rattle.std.specs.List.{flat_map}
use Rattle.wcp_clock.specs.declared.note.Note.{Note}
use Rattle.wcp_clock.specs.declared.note.Note.TheVariants as note
use Rattle.wcp_model.specs.declared.step.Reply.{Reply}
use Rattle.wcp_model.specs.declared.step.Reply.TheVariants as reply
use Rattle.wcp_model.specs.declared.step.Why.{Why}
use Rattle.wcp_model.specs.declared.step.Why.TheVariants as why

-- The word for why a step was refused.
abbrev pub why_word : Why → List ℕ
why_word why.NoSuch = codes "nosuch"
why_word why.Closed = codes "closed"
why_word why.Backlog = codes "backlog"
why_word why.Gone = codes "gone"
why_word why.ClockEnd = codes "clockend"
why_word why.Empty = codes "empty"
why_word why.Full = codes "full"

-- The words of a note: the number of a snapshot and each component of its clock, or how many snapshots a mark
-- that ends them counts.
abbrev pub note_words : Note → List ℕ
note_words (note.Snap number clock) =
    codes " snap " ++ (decimal number ++ flat_map (λ component. 32 ∷ decimal component) clock)
note_words (note.Close count) = codes " close " ++ decimal count
note_words (note.Lost count) = codes " lost " ++ decimal count

-- The line of a reply, with its LF.
abbrev pub reply_line : Reply → List ℕ
reply_line reply.Done = codes "done\n"
reply_line (reply.Took item) = codes "took " ++ (decimal item.from ++ (note_words item.note ++ 10 ∷ []))
reply_line (reply.Refused why) = codes "refused " ++ (why_word why ++ 10 ∷ [])
