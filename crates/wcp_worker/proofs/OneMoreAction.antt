-- What a player has done, with one more action, and once it is closed.
use Rattle.wcp_worker.proofs.Words.{◌≡◌, ℕ, Bool, true, false, List, [], ◌∷◌, ◌++◌, cond, sym, refl, ap, ◌∙◌, subst}
use Rattle.wcp_worker.proofs.Words.{append-nil, Action, Call, Closed, ProbeSetup, state_of_log, FollowsActions}
use Rattle.wcp_worker.proofs.Words.{stamp_of, stamps_sent, stamps_got, is_send_to, is_receive_from, setup_of}
use Rattle.wcp_worker.proofs.Words.{ClosedSide, HasEmitted, IsEndOfProbe, IsSameLive, same_live, Mailbox, Player}
use Rattle.wcp_worker.proofs.Words.{Worker, IfBoth, HasTakenMore, IsSameOutbox, IsSameInbox, HasSameLanes, outbox_to}
use Rattle.wcp_worker.proofs.Words.{inbox_from, clocks_sent_to, clocks_taken_from, DoesAction, HasDoneActions}
use Rattle.wcp_worker.proofs.Words.{HasPlayed}
use Rattle.wcp_model.proofs.TaskLogs.{FollowsActions-push, stamps_sent-push, stamps_sent-push_other, stamps_got-push}
use Rattle.wcp_model.proofs.TaskLogs.{stamps_got-push_other}
use Rattle.wcp_worker.proofs.TakenMore.{both_then, entry_same, entry_prefix}

same_lanes : (a b c : Mailbox) → HasSameLanes a b → HasSameLanes b c → HasSameLanes a c
same_lanes a b c first then =
    record {
      outboxes = λ q. both_then IsSameOutbox (λ x y z one two. (two.0 ∙ one.0, two.1 ∙ one.1))
          (outbox_to a q) (outbox_to b q) (outbox_to c q) (first.outboxes q) (then.outboxes q);
      inboxes = λ q. both_then IsSameInbox (λ x y z one two. (two.0 ∙ one.0, two.1 ∙ one.1))
          (inbox_from a q) (inbox_from b q) (inbox_from c q) (first.inboxes q) (then.inboxes q);
    }

-- one more call of a log that follows actions, with what it adds to the stamps
module _ (actions : List Action) (log : List Call) (act : Action) (call : Call) (follows : FollowsActions actions log)
    (q : ℕ) where
  sent_more : (made : ProbeSetup) (passes : Bool) → is_send_to q act ≡ passes
      → stamps_sent made q actions log ++ cond passes ((state_of_log made (log ++ call ∷ [])).clock ∷ []) []
      ≡ stamps_sent made q (actions ++ act ∷ []) (log ++ call ∷ [])
  sent_more made true is = sym (stamps_sent-push actions log act call follows made q is)
  sent_more made false is = append-nil _ ∙ sym (stamps_sent-push_other actions log act call follows made q is)

  got_more : (passes : Bool) → is_receive_from q act ≡ passes
      → stamps_got q actions log ++ cond passes (stamp_of call ∷ []) []
      ≡ stamps_got q (actions ++ act ∷ []) (log ++ call ∷ [])
  got_more true is = sym (stamps_got-push actions log act call follows q is)
  got_more false is = append-nil _ ∙ sym (stamps_got-push_other actions log act call follows q is)

-- a player that does one more action has done this too
pub done_more : (start old new : Player) (actions : List Action) (log : List Call) (act : Action) (call : Call)
    → HasDoneActions start actions log old → DoesAction old act call new → IsSameLive old.probe new.probe
    → HasDoneActions start (actions ++ act ∷ []) (log ++ call ∷ []) new
done_more start old new actions log act call done by same =
    let stands = by.accepted log done.stands in
    let made = same.0.made in
    let id = ap (λ (s : ProbeSetup). s.process) made in
    record {
      follows = FollowsActions-push actions log act call done.follows by.is_call;
      stands = stands;
      probe = same_live start.probe old.probe new.probe done.probe same;
      lanes = same_lanes start.mailbox old.mailbox new.mailbox done.lanes by.lanes;
      own = by.own;
      sent = λ q.
          by.sent q
          ∙ (λ i. (ap (λ p. clocks_sent_to p old.mailbox q) id ∙ done.sent q
          ∙ ap (λ s. stamps_sent s q actions log) (sym made)) i
          ++ cond (is_send_to q act) (stands.core.clock i ∷ []) [])
          ∙ sent_more actions log act call done.follows q (setup_of new.probe.core) (is_send_to q act) refl;
      taken = λ q.
          by.taken q
          ∙ ap (λ clocks. clocks ++ cond (is_receive_from q act) (stamp_of call ∷ []) []) (done.taken q)
          ∙ got_more actions log act call done.follows q (is_receive_from q act) refl;
    }

-- a player that has done all its worker's actions, and then closed its probe and taken more, has played them
pub all_played : (worker : Worker) (now : Player) (log : List Call) (probe : ClosedSide) (mailbox : Mailbox)
    → HasDoneActions worker.player worker.actions.items log now
    → IsEndOfProbe now.probe probe → HasEmitted now.probe log probe
    → mailbox.outboxes ≡ now.mailbox.outboxes
    → ((q : ℕ) → IfBoth (HasTakenMore q) (inbox_from now.mailbox q) (inbox_from mailbox q))
    → HasPlayed worker log probe mailbox
all_played worker now log probe mailbox done end emitted outboxes more =
    let same = done.probe in
    let made = same.0.made in
    let id = ap (λ (s : ProbeSetup). s.process) made in
    let actions = worker.actions.items in
    record {
      follows = done.follows;
      closed = record { watch = end.watch ∙ same.0.watch; id = end.id ∙ id; ring = end.ring ∙ same.1 };
      emitted = emitted ∙ ap (λ s. (state_of_log s (log ++ Closed ∷ [])).notes) made;
      lanes = record {
        outboxes = subst (λ o. (q : ℕ) → IfBoth IsSameOutbox (outbox_to worker.player.mailbox q)
            (outbox_to (record now.mailbox { outboxes = o }) q)) (sym outboxes) done.lanes.outboxes;
        inboxes = λ q. both_then IsSameInbox (λ x y z one two. (two.0 ∙ one.0, two.1 ∙ one.1))
            (inbox_from worker.player.mailbox q) (inbox_from now.mailbox q) (inbox_from mailbox q)
            (done.lanes.inboxes q)
            (entry_same q (inbox_from now.mailbox q) (inbox_from mailbox q) (more q));
      };
      sent = λ q.
          (λ i. clocks_sent_to (sym id i) (record now.mailbox { outboxes = outboxes i }) q)
          ∙ done.sent q ∙ ap (λ s. stamps_sent s q actions log) made;
      taken = λ q.
          subst (λ stamps. (rest : List (List ℕ)) × (stamps ++ rest ≡ clocks_taken_from mailbox q)) (done.taken q)
          (entry_prefix q (inbox_from now.mailbox q) (inbox_from mailbox q) (more q) (done.own.inboxes q));
    }
