-- What is known of several questions, reply by reply.
use Rattle.std.proofs.Common.{◌≡◌, ◌∙◌, ◌<◌, ℕ, Bool, true, false, List, [], ◌∷◌, Option, Result, Ok, Err, length, arith}
use Rattle.std.proofs.Common.{ap, subst, sym, refl, inl, inr, IsErr, IsErrAnd, true≢false}
use Rattle.std.proofs.lemmas.List.{get_or-set_same, get_or-set_other, length-map}
use Rattle.std.proofs.Common.{length-set}
use Rattle.std.proofs.lemmas.Bool.{cases_eq}
use Rattle.std.specs.Prelude.{All, slice_index_or, slice_set}
use Rattle.trace_log.specs.declared.turn.Form.{Form}
use Rattle.trace_source.specs.Story.{Story}
use Rattle.trace_detect.specs.declared.answer.ReasonedAnswer.{ReasonedAnswer}
use Rattle.trace_detect.specs.declared.fault.DetectFault.{DetectFault}
use Rattle.trace_asking.specs.declared.asking.Asking.{Asking}
use Rattle.trace_asking.specs.declared.asking.QuestionAnswer.{QuestionAnswer}
use Rattle.trace_asking.specs.declared.question.Question.{Question}
use Rattle.trace_asking.specs.Asking.{IsAsking, answered_by, is_answered, question_at}
use Rattle.trace_asking.specs.OfBytes.{Answers, AnswersOne, StopAll, StopsFor}
use Rattle.trace_pages.specs.declared.replying.Reply.{Reply}
use Rattle.trace_pages.specs.declared.replying.Reply.TheVariants.{Open}
use Rattle.trace_pages.specs.declared.replying.Replying.{Replying}
use Rattle.trace_pages.specs.Replies.{AreAllKnown, AreReplies, IsReplying, IsReplyTo, RepliesAll, StopOpen, has_reply}
use Rattle.trace_pages.specs.Replies.{reply_of}

-- As many questions are answered or open as are asked.
pub as_many_answered : {S : Type 0} (story : Story S) (questions : List Question) (asking : Asking S)
    → IsAsking story questions asking → length (answered_by asking) ≡ length questions
as_many_answered story questions asking is =
    length-map asking.asked.items (λ one. is_answered one.stage) ∙ is.asked.as_many

-- Nothing is known of questions that weren't answered.
pub none_replied : {S : Type 0} (story : Story S) (form : Form) (input : Option (List ℕ)) (questions : List Question)
    (asking : Asking S) (replying : Replying S) → replying.asking ≡ asking → IsAsking story questions asking
    → All (λ answered. answered ≡ false) (answered_by asking)
    → length replying.replies.items ≡ length questions → All (λ reply. reply ≡ Open) replying.replies.items
    → IsReplying story form input questions replying
none_replied {S = S} story form input questions asking replying same is unanswered many opened = record {
  is = subst (λ (it : Asking S). IsAsking story questions it) (sym same) is;
  are = record {
    as_many = many;
    each = λ p question reply within.
        subst (λ (r : Reply). IsReplyTo form input (question_at questions p question) r)
        (sym (opened p reply (omega (arith, many, within)))) tt;
  };
  known = λ p b reply within.
      ap (λ (it : Asking S). slice_index_or (answered_by it) p b) same
      ∙ unanswered p b (omega (arith, as_many_answered story questions asking is, within))
      ∙ sym (ap has_reply (opened p reply (omega (arith, many, within))));
}

-- What is known of a question that was answered.
pub reply_so : (form : Form) (input left : Option (List ℕ)) (question : Question)
    (answer : Result ReasonedAnswer DetectFault) → Answers form question input left answer
    → IsReplyTo form input question (reply_of answer)
reply_so form input left question (Ok told) answers = (left, answers)
reply_so form input left question (Err why) answers = (left, answers)

has_reply_so : (answer : Result ReasonedAnswer DetectFault) → has_reply (reply_of answer) ≡ true
has_reply_so (Ok told) = refl
has_reply_so (Err why) = refl

-- One question more was answered.
module _ {S : Type 0} (story : Story S) (form : Form) (input left : Option (List ℕ)) (questions : List Question)
    (old new : Replying S) (told : QuestionAnswer) (replying : IsReplying story form input questions old)
    (one : AnswersOne form questions input left (answered_by old.asking) told (answered_by new.asking))
    (replied : new.replies.items ≡ slice_set old.replies.items told.place (reply_of told.answer)) where
  pub one_within : told.place < length old.replies.items
  one_within = omega (arith, one.within, replying.are.as_many)

  abbrev reply_at : ℕ → Reply → Reply
  reply_at p reply = slice_index_or (slice_set old.replies.items told.place (reply_of told.answer)) p reply

  reply_here : (p : ℕ) (reply : Reply) → p ≡ told.place → reply_at p reply ≡ reply_of told.answer
  reply_here p reply same =
      ap (λ (k : ℕ). reply_at k reply) same
      ∙ get_or-set_same old.replies.items told.place (reply_of told.answer) reply one_within

  more_replies : (p : ℕ) (question : Question) (reply : Reply) → p < length questions
      → IsReplyTo form input (question_at questions p question) (reply_at p reply)
  more_replies p question reply within = elim (cases_eq p told.place) [
    | inl same ↦
        subst (λ (r : Reply). IsReplyTo form input (question_at questions p question) r) (sym (reply_here p reply same))
        (subst (λ (k : ℕ). IsReplyTo form input (question_at questions k question) (reply_of told.answer)) (sym same)
        (reply_so form input left (question_at questions told.place question) told.answer (one.answer question)))
    | inr other ↦
        subst (λ (r : Reply). IsReplyTo form input (question_at questions p question) r)
        (sym (get_or-set_other old.replies.items told.place p (reply_of told.answer) reply other))
        (replying.are.each p question reply within)
  ]

  more_known : (p : ℕ) (b : Bool) (reply : Reply) → p < length questions
      → slice_index_or (slice_set (answered_by old.asking) told.place true) p b ≡ has_reply (reply_at p reply)
  more_known p b reply within = elim (cases_eq p told.place) [
    | inl same ↦
        ap (λ (k : ℕ). slice_index_or (slice_set (answered_by old.asking) told.place true) k b) same
        ∙ get_or-set_same (answered_by old.asking) told.place true b
        (omega (arith, one.within, as_many_answered story questions old.asking replying.is))
        ∙ sym (ap has_reply (reply_here p reply same) ∙ has_reply_so told.answer)
    | inr other ↦
        get_or-set_other (answered_by old.asking) told.place p true b other
        ∙ replying.known p b reply within
        ∙ sym (ap has_reply (get_or-set_other old.replies.items told.place p (reply_of told.answer) reply other))
  ]

  pub replies_more : IsAsking story questions new.asking → IsReplying story form input questions new
  replies_more is = record {
    is = is;
    are = record {
      as_many = ap length replied ∙ length-set old.replies.items told.place (reply_of told.answer)
          ∙ replying.are.as_many;
      each = λ p question reply within.
          subst (λ (rs : List Reply). IsReplyTo form input (question_at questions p question) (slice_index_or rs p reply))
          (sym replied) (more_replies p question reply within);
    };
    known = λ p b reply within.
        ap (λ (bs : List Bool). slice_index_or bs p b) one.now ∙ more_known p b reply within
        ∙ sym (ap (λ (rs : List Reply). has_reply (slice_index_or rs p reply)) replied);
  }

-- All questions were answered, or a fault stops those that weren't.
module _ {S : Type 0} (story : Story S) (form : Form) (input : Option (List ℕ)) (questions : List Question)
    (replying : Replying S) (are : IsReplying story form input questions replying) where
  pub all_replied : (new : List Bool) → new ≡ answered_by replying.asking → All (λ one. one ≡ true) new
      → AreAllKnown questions replying.replies.items
  all_replied new same all p reply within =
      sym (are.known p true reply within) ∙ sym (ap (λ (bs : List Bool). slice_index_or bs p true) same)
      ∙ all p true (omega (arith, ap length same, as_many_answered story questions replying.asking are.is, within))

  pub still_replying : (new : Replying S) → new.replies ≡ replying.replies → IsAsking story questions new.asking
      → answered_by new.asking ≡ answered_by replying.asking → IsReplying story form input questions new
  still_replying new same is answered = record {
    is = is;
    are = subst (λ (rs : List Reply). AreReplies form input questions rs) (sym (ap (λ those. those.items) same)) are.are;
    known = λ p b reply within.
        ap (λ (bs : List Bool). slice_index_or bs p b) answered ∙ are.known p b reply within
        ∙ sym (ap (λ those. has_reply (slice_index_or those.items p reply)) same);
  }

  pub stops_open : (why : DetectFault) → StopAll form questions input (answered_by replying.asking) why
      → StopOpen form input questions replying.replies.items why
  stops_open why stops p question reply within not_yet =
      stops p question true within (are.known p true reply within ∙ not_yet)

-- Reading stopped for a fault.
pub stops_replying : {S : Type 0} (story : Story S) (form : Form) (input : Option (List ℕ)) (questions : List Question)
    (result : Result (Unit {0}) DetectFault) (why : DetectFault) (new : Replying S)
    → IsErr result × IsErrAnd result (λ given. given ≡ why) → AreReplies form input questions new.replies.items
    → StopOpen form input questions new.replies.items why → RepliesAll story form input questions result new
stops_replying story form input questions (Ok done) why new given are stops = absurd (true≢false (sym given.0))
stops_replying story form input questions (Err y) why new given are stops =
    (are, subst (λ (z : DetectFault). StopOpen form input questions new.replies.items z) (sym given.1) stops)
