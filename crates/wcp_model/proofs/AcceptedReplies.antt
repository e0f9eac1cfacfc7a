use Rattle.wcp_model.proofs.Words.{◌≡◌, ℕ, Bool, false, cond, None, List, [], ◌∷◌, ◌++◌, length, count_by, refl, sym}
use Rattle.wcp_model.proofs.Words.{ap, ◌∙◌, subst, append_assoc, append-nil, arith, cond_both, flat_map-append, take_at}
use Rattle.wcp_model.proofs.Words.{filter-append, sum_by-cons, slice_get_past, Plan, Step, Computation, is_send}
use Rattle.wcp_model.proofs.Words.{is_closed, IsAccepted, first_reason, Answered, accepted_by, accepted, is_event}
use Rattle.wcp_model.proofs.Words.{computation, receivers, event_reasons, IsReply, AreReplies}
use Rattle.wcp_model.specs.declared.step.Reply.{Reply}
use Rattle.wcp_model.specs.declared.step.Reply.TheVariants.{Done, Took, Refused}
use Rattle.wcp_model.specs.Emission.{has_ended}
use Rattle.wcp_model.specs.declared.step.Why.{Why}
use Rattle.wcp_model.specs.declared.step.Why.TheVariants as why
use Rattle.wcp_model.proofs.AcceptedSteps.{accepted_push}
use Rattle.wcp_model.proofs.FirstReasons.{none_holds}
use Rattle.wcp_model.proofs.Growth.{get_behind}

-- there are as many receivers as sends
pub length-receivers : (c : Computation) → length (receivers c) ≡ count_by is_send c
length-receivers [] = refl
length-receivers (s ∷ c) = grind (arith, length-receivers c, sum_by-cons (λ x. cond (is_send x) 1 0) s c)

-- a process that has not ended is open
still_open : (c : Computation) (p : ℕ) → has_ended c p ≡ false → is_closed c p ≡ false
still_open c p not_ended = grind arith

module _ (n : ℕ) (c : Computation) (pending : ℕ → Bool) (more : List (Bool × Why)) where
  -- a step against which no reason holds keeps the computation an accepted one
  step_accepted : (s : Step) → first_reason (event_reasons n c pending s ++ more) ≡ None → IsAccepted c
      → IsAccepted (c ++ computation (s ∷ []))
  step_accepted s none accepted =
      cond_both (is_event s) (s ∷ []) [] (λ e. IsAccepted (c ++ e))
      (λ event. accepted_push c s accepted
      (λ p own. still_open c p
      (none_holds (event_reasons n c pending s ++ more) 1 (has_ended c p, why.Closed) (grind arith) none))
      (grind (arith, length-receivers, slice_get_past)))
      (λ other. subst IsAccepted (sym (append-nil c)) accepted)

-- and so does a step with its reply
reply_accepted : (plan : Plan) (steps : List Step) (s : Step) (answer : Reply) → IsReply plan steps s answer
    → IsAccepted (computation steps) → IsAccepted (computation (steps ++ accepted_by s answer))
reply_accepted plan steps s Done is accepted = grind (arith, filter-append, step_accepted)
reply_accepted plan steps s (Took item) is accepted = grind (arith, filter-append, step_accepted)
reply_accepted plan steps s (Refused why) is accepted = rw (append-nil steps) accepted

-- one more step of a history, and then the rest
goes_on : (plan : Plan) (rest history : List Answered) → AreReplies plan (history ++ rest)
    → IsAccepted (computation (accepted history)) → IsAccepted (computation (accepted (history ++ rest)))
goes_on plan [] history are accepted_yet =
    subst (λ all. IsAccepted (computation (accepted all))) (sym (append-nil history)) accepted_yet
goes_on plan (a ∷ rest) history are accepted_yet =
    let one_more : accepted (history ++ a ∷ []) ≡ accepted history ++ accepted_by a.step a.reply =
    flat_map-append _ history (a ∷ []) ∙ ap (λ e. accepted history ++ e) (append-nil (accepted_by a.step a.reply)) in
    let is : IsReply plan (accepted history) a.step a.reply =
    rw (take_at history (a ∷ rest) (length history) refl) at (are (length history) a (get_behind history a rest)) in
    let on = goes_on plan rest (history ++ a ∷ []) in
    simp append_assoc at (on (simp append_assoc are)
    (rw one_more (reply_accepted plan (accepted history) a.step a.reply is accepted_yet)))

-- where the replies are those of the definitions, the computation is an accepted one
pub replies_accepted : (plan : Plan) (history : List Answered) → AreReplies plan history
    → IsAccepted (computation (accepted history))
replies_accepted plan history are = goes_on plan history [] are (grind arith)
