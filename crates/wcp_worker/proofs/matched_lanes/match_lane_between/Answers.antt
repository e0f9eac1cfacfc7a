use Rattle.wcp_worker.proofs.Words.{◌↔◌, None, Some, refl, sym, subst, ◌∙◌, IsOk, IsAllTaken}
use Rattle.wcp_worker.proofs.MatchedLanes.{ends_are, exact_between, others_stay}
use Rattle.wcp_worker.proofs.matched_lanes.match_lane_between.Goals as goal

pub returns-in-Some-Some-clause-exact : goal.returns-in-Some-Some-clause-exact
returns-in-Some-Some-clause-exact c =
    subst (λ ends. IsOk c.match_lane.result ↔ IsAllTaken ends)
    (sym (ends_are c.args.mailboxes.now c.args.p c.args.q c.index-mailboxes-p.result _ c.index-mailboxes-q.result
    c.take_inbox-inbox.new.self c.requires.from c.requires.to c.take_outbox-outbox.ensures.inboxes
    (Some c.in-Some-Some.outbox) (Some c.in-Some-Some.inbox)
    (sym c.take_outbox-outbox.ensures.outbox ∙ c.in-Some-Some.is-0)
    (sym c.take_inbox-inbox.ensures.inbox ∙ c.in-Some-Some.is-1)))
    (exact_between c.match_lane.result c.in-Some-Some.outbox c.in-Some-Some.inbox c.match_lane.ensures.exact
    c.match_lane.ensures.matched)

pub returns-in-None-None-clause-exact : goal.returns-in-None-None-clause-exact
returns-in-None-None-clause-exact c = (
  λ _. subst IsAllTaken
      (sym (ends_are c.args.mailboxes.now c.args.p c.args.q c.index-mailboxes-p.result _ c.index-mailboxes-q.result
      c.take_inbox-inbox.new.self c.requires.from c.requires.to c.take_outbox-outbox.ensures.inboxes
      None None (sym c.take_outbox-outbox.ensures.outbox ∙ c.in-None-None.is-0)
      (sym c.take_inbox-inbox.ensures.inbox ∙ c.in-None-None.is-1)))
      (λ p sends. absurd sends),
  λ _. refl,
)

pub returns-in-Some-Some-clause-others : goal.returns-in-Some-Some-clause-others
returns-in-Some-Some-clause-others c =
    others_stay c.args.mailboxes.now c.args.p c.args.q c.index-mailboxes-p.result _ c.index-mailboxes-q.result _
    c.requires.from c.requires.to c.take_outbox-outbox.ensures.inboxes c.take_outbox-outbox.ensures.others
    c.take_inbox-inbox.ensures.others c.take_inbox-inbox.ensures.outboxes

pub returns-in-None-None-clause-others : goal.returns-in-None-None-clause-others
returns-in-None-None-clause-others c =
    others_stay c.args.mailboxes.now c.args.p c.args.q c.index-mailboxes-p.result _ c.index-mailboxes-q.result _
    c.requires.from c.requires.to c.take_outbox-outbox.ensures.inboxes c.take_outbox-outbox.ensures.others
    c.take_inbox-inbox.ensures.others c.take_inbox-inbox.ensures.outboxes
