-- What is said of several questions, by what is known of them.
use Rattle.std.proofs.Common.{◌≡◌, ◌∙◌, ◌<◌, ℕ, List, [], Option, Some, None, Result, Ok, Err, length, arith, sym, refl}
use Rattle.std.proofs.Common.{◌∷◌, ◌++◌, ap, subst, inl, inr, length-append, true, false, true≢false}
use Rattle.std.proofs.lemmas.List.{map-append, length-map, get_or_append_left}
use Rattle.std.proofs.Math.Seq.{get_or-append_seam}
use Rattle.std.proofs.lemmas.Bool.{cases_eq}
use Rattle.std.specs.Prelude.{map}
use Rattle.std.specs.Prelude.{slice_index_or}
use Rattle.trace_log.specs.declared.turn.Form.{Form}
use Rattle.trace_detect.specs.declared.fault.DetectFault.{DetectFault}
use Rattle.trace_asking.specs.declared.question.Question.{Question}
use Rattle.trace_asking.specs.Asking.{question_at}
use Rattle.trace_asking.specs.OfBytes.{StopsFor}
use Rattle.trace_text.specs.Unknown.{SaysWaiting}
use Rattle.trace_text.specs.Waiting.{ToldWaiting}
use Rattle.trace_pages.specs.Pages.{Said, said_by}
use Rattle.trace_pages.specs.declared.answered.Answered.{Answered}
use Rattle.trace_pages.specs.declared.replying.Reply.{Reply}
use Rattle.trace_pages.specs.declared.replying.Reply.TheVariants.{Open, Told, Failed}
use Rattle.trace_pages.specs.Replies.{AreAllKnown, AreReplies, IsReplyTo, StopOpen, has_reply}
use Rattle.trace_pages.specs.Several.{AreClosed, AreSaid, AreSaidOf, IsClosed, IsSaidOf, IsSaidTo, OfAnswer, OfNone}
use Rattle.trace_pages.specs.Several.{OfWaiting}

-- What is said where each question was answered.
said_to : (form : Form) (input : Option (List ℕ)) (question : Question) (reply : Reply) (said : Said)
    → IsReplyTo form input question reply → IsSaidOf None reply said
    → IsSaidTo form input (λ waiting why. ⊥) question said
said_to form input question Open said known is = absurd is
said_to form input question (Told told) said known is = OfAnswer known.0 told known.1 is
said_to form input question (Failed why) said known is = OfNone known.0 why known.1 is

pub all_said : (form : Form) (input : Option (List ℕ)) (questions : List Question) (replies : List Reply)
    (saids : List Said) → AreReplies form input questions replies → AreSaidOf None replies saids
    → AreSaid form input (λ waiting why. ⊥) questions saids
all_said form input questions replies saids are says = record {
  as_many = says.as_many ∙ are.as_many;
  each = λ p question said within.
      said_to form input (question_at questions p question) (slice_index_or replies p Open) (slice_index_or saids p said)
      (are.each p question Open within) (says.each p Open said (omega (arith, are.as_many, within)));
}

-- And where lines wait.
said_waiting : (form : Form) (input : Option (List ℕ)) (question : Question) (reply : Reply) (said : Said)
    (waiting : ToldWaiting) (why : DetectFault) → SaysWaiting why waiting → IsReplyTo form input question reply
    → (has_reply reply ≡ false → StopsFor form question input why) → IsSaidOf (Some waiting) reply said
    → IsSaidTo form input (λ waits y. SaysWaiting y waits) question said
said_waiting form input question Open said waiting why waits known stops is =
    OfWaiting waiting why waits (stops refl) is
said_waiting form input question (Told told) said waiting why waits known stops is = OfAnswer known.0 told known.1 is
said_waiting form input question (Failed y) said waiting why waits known stops is = OfNone known.0 y known.1 is

pub some_said : (form : Form) (input : Option (List ℕ)) (questions : List Question) (replies : List Reply)
    (saids : List Said) (waiting : ToldWaiting) (why : DetectFault) → SaysWaiting why waiting
    → AreReplies form input questions replies → StopOpen form input questions replies why
    → AreSaidOf (Some waiting) replies saids
    → AreSaid form input (λ waits y. SaysWaiting y waits) questions saids
some_said form input questions replies saids waiting why waits are stops says = record {
  as_many = says.as_many ∙ are.as_many;
  each = λ p question said within.
      said_waiting form input (question_at questions p question) (slice_index_or replies p Open)
      (slice_index_or saids p said) waiting why waits (are.each p question Open within)
      (stops p question Open within) (says.each p Open said (omega (arith, are.as_many, within)));
}

-- One reply more is said.
pub said_more : (waiting : Option ToldWaiting) (replies : List Reply) (answered : List Answered) (reply : Reply)
    (one : Answered) → AreSaidOf waiting replies (map said_by answered) → IsSaidOf waiting reply (said_by one)
    → AreSaidOf waiting (replies ++ reply ∷ []) (map said_by (answered ++ one ∷ []))
said_more waiting replies answered reply one are is = record {
  as_many = omega (
    arith,
    are.as_many,
    length-append replies (reply ∷ []),
    length-map answered said_by,
    length-append answered (one ∷ []),
    length-map (answered ++ one ∷ []) said_by,
  );
  each = λ p r said within. elim (cases_eq p (length replies)) [
    | inl same ↦
        let many : length (map said_by answered) ≡ length replies = are.as_many in
        let reply_is : slice_index_or (replies ++ reply ∷ []) p r ≡ reply =
        ap (λ k. slice_index_or (replies ++ reply ∷ []) k r) same ∙ get_or-append_seam replies reply [] r in
        let said_is : slice_index_or (map said_by (answered ++ one ∷ [])) p said ≡ said_by one =
        ap (λ (l : List Said). slice_index_or l p said) (map-append said_by answered (one ∷ []))
        ∙ ap (λ k. slice_index_or (map said_by answered ++ said_by one ∷ []) k said) (same ∙ sym many)
        ∙ get_or-append_seam (map said_by answered) (said_by one) [] said in
        subst (λ (x : Reply). IsSaidOf waiting x (slice_index_or (map said_by (answered ++ one ∷ [])) p said))
        (sym reply_is) (subst (λ (s : Said). IsSaidOf waiting reply s) (sym said_is) is)
    | inr other ↦
        let below : p < length replies = omega (arith, other, within, length-append replies (reply ∷ [])) in
        let below_too : p < length (map said_by answered) = omega (arith, below, are.as_many) in
        subst (λ (x : Reply). IsSaidOf waiting x (slice_index_or (map said_by (answered ++ one ∷ [])) p said))
        (sym (get_or_append_left replies (reply ∷ []) r p below))
        (subst (λ (s : Said). IsSaidOf waiting (slice_index_or replies p r) s)
        (sym (ap (λ (l : List Said). slice_index_or l p said) (map-append said_by answered (one ∷ []))
        ∙ get_or_append_left (map said_by answered) (said_by one ∷ []) said p below_too))
        (are.each p r said below))
  ];
}

pub none_said : (waiting : Option ToldWaiting) → AreSaidOf waiting [] []
none_said waiting = record { as_many = refl; each = λ p reply said within. absurd (omega (arith, within)) }

-- The next of several replies is closed as they all are.
pub closed_next : (waiting : Option ToldWaiting) (all before more : List Reply) (reply : Reply)
    → AreClosed waiting all → before ++ reply ∷ more ≡ all → IsClosed waiting reply
closed_next waiting all before more reply closed parts =
    let within : length before < length all =
    omega (arith, length-append before (reply ∷ more), ap length parts) in
    subst (λ (r : Reply). IsClosed waiting r)
    (ap (λ (l : List Reply). slice_index_or l (length before) reply) (sym parts)
    ∙ get_or-append_seam before reply more reply)
    (closed (length before) reply within)

-- Each question was answered, or lines wait.
closed_reply : (reply : Reply) → has_reply reply ≡ true → IsClosed None reply
closed_reply Open has = absurd (true≢false (sym has))
closed_reply (Told told) has = tt
closed_reply (Failed why) has = tt

pub all_closed : (questions : List Question) (replies : List Reply) → length replies ≡ length questions
    → AreAllKnown questions replies → AreClosed None replies
all_closed questions replies many all p reply within =
    closed_reply (slice_index_or replies p reply) (all p reply (omega (arith, many, within)))

closed_so : (waiting : ToldWaiting) (reply : Reply) → IsClosed (Some waiting) reply
closed_so waiting Open = tt
closed_so waiting (Told told) = tt
closed_so waiting (Failed why) = tt

pub all_closed_so : (waiting : ToldWaiting) (replies : List Reply) → AreClosed (Some waiting) replies
all_closed_so waiting replies p reply within = closed_so waiting (slice_index_or replies p reply)
