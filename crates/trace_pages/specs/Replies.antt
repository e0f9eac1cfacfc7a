-- What is known of several questions about one log.
use Rattle.std.specs.Prelude.{◌≡◌, ◌<◌, ℕ, Bool, true, false, List, Option, Result, Ok, Err, length, slice_index_or}
use Rattle.trace_log.specs.declared.turn.Form.{Form}
use Rattle.trace_source.specs.Story.{Story}
use Rattle.trace_detect.specs.declared.answer.ReasonedAnswer.{ReasonedAnswer}
use Rattle.trace_detect.specs.declared.fault.DetectFault.{DetectFault}
use Rattle.trace_asking.specs.declared.question.Question.{Question}
use Rattle.trace_asking.specs.Asking.{IsAsking, answered_by, question_at}
use Rattle.trace_asking.specs.OfBytes.{Answers, StopsFor}
use Rattle.trace_pages.specs.declared.replying.Reply.{Reply}
use Rattle.trace_pages.specs.declared.replying.Reply.TheVariants.{Open, Told, Failed}
use Rattle.trace_pages.specs.declared.replying.Replying.{Replying}

-- What is known of a question that was answered so.
abbrev pub reply_of : Result ReasonedAnswer DetectFault → Reply
reply_of (Ok told) = Told told
reply_of (Err why) = Failed why

-- Whether a question was answered.
abbrev pub has_reply : Reply → Bool
has_reply Open = false
has_reply (Told told) = true
has_reply (Failed why) = true

-- What is known of a question is what is answered to it alone, by what was left of the input then.
abbrev pub IsReplyTo : Form → Option (List ℕ) → Question → Reply → Type 0
IsReplyTo form input question Open = Unit {0}
IsReplyTo form input question (Told told) = (left : Option (List ℕ)) × Answers form question input left (Ok told)
IsReplyTo form input question (Failed why) = (left : Option (List ℕ)) × Answers form question input left (Err why)

-- The same of each of several questions.
pub record AreReplies (form : Form) (input : Option (List ℕ)) (questions : List Question) (replies : List Reply) : Type 0 where
  pub as_many : length replies ≡ length questions
  pub each : (p : ℕ) (question : Question) (reply : Reply) → p < length questions →
      IsReplyTo form input (question_at questions p question) (slice_index_or replies p reply)

-- Questions are asked, and so much is known of each: of those that were answered the answer.
pub record IsReplying {S : Type 0} (story : Story S) (form : Form) (input : Option (List ℕ)) (questions : List Question)
    (replying : Replying S) : Type 0 where
  pub is : IsAsking story questions replying.asking
  pub are : AreReplies form input questions replying.replies.items
  pub known : (p : ℕ) (b : Bool) (reply : Reply) → p < length questions →
      slice_index_or (answered_by replying.asking) p b ≡ has_reply (slice_index_or replying.replies.items p reply)

-- Some questions are, and there is a reply for each.
pub record CanReply {W S : Type 0} (story : W → Story S) (replying : Replying S) : Type 0 where
  pub whole : W
  pub questions : List Question
  pub is : IsAsking (story whole) questions replying.asking
  pub many : length replying.replies.items ≡ length questions

-- No question that wasn't answered has an answer, for this fault.
abbrev pub StopOpen : Form → Option (List ℕ) → List Question → List Reply → DetectFault → Type 0
StopOpen form input questions replies why = (p : ℕ) (question : Question) (reply : Reply) → p < length questions →
    has_reply (slice_index_or replies p reply) ≡ false → StopsFor form (question_at questions p question) input why

-- Each question was answered; or a fault stops those that weren't.
abbrev pub AreAllKnown : List Question → List Reply → Type 0
AreAllKnown questions replies = (p : ℕ) (reply : Reply) → p < length questions →
    has_reply (slice_index_or replies p reply) ≡ true

abbrev pub RepliesAll : {S : Type 0} → Story S → Form → Option (List ℕ) → List Question → Result (Unit {0}) DetectFault → Replying S
    → Type 0
RepliesAll story form input questions (Ok _) replying =
    IsReplying story form input questions replying × AreAllKnown questions replying.replies.items
RepliesAll story form input questions (Err why) replying =
    AreReplies form input questions replying.replies.items × StopOpen form input questions replying.replies.items why
