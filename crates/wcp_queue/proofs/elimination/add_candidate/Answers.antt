use Rattle.wcp_queue.proofs.Words.{length, ◌++◌, ◌∷◌, [], refl, sym, ◌∙◌, ap, get_or_default, queue_of, waiting_in}
use Rattle.wcp_queue.proofs.SoundCheckers.{room_to_wait}
use Rattle.wcp_queue.proofs.LeftQueues.{AreLeft-gain, LeavesQueue-alone}
use Rattle.wcp_queue.proofs.elimination.add_candidate.Goals as goal
use Rattle.wcp_queue.proofs.elimination.add_candidate.Goals.{then-compare, else-compare}

pub push-requires-clause-room : goal.push-requires-clause-room
push-requires-clause-room c =
    room_to_wait (length c.args.queues.now) c.args.p (waiting_in c.args.queues.now) c.args.floor.now c.requires.within
    (sym c.has_head.ensures ∙ c.if-has_head.true) c.requires.waiting c.requires.room

pub returns-then-has_head-clause-left : goal.returns-then-has_head-clause-left
returns-then-has_head-clause-left c = λ rows longer.
    rw c.in_ok-push.ensures.ok
    (AreLeft-gain _ rows longer c.args.queues.now c.args.floor.now c.args.p c.args.clock.now _
    (queue_of c.args.queues.now c.args.p ++ c.args.clock.now ∷ []) c.requires.within refl)

pub returns-clause-stable : goal.returns-clause-stable
returns-clause-stable c =
    elim c.if-compare.branch [
      | then-compare w ↦ rw (w.queues-is, w.floor-is) w.eliminate.ensures.stable
      | else-compare w ↦ rw (w.queues-is, w.floor-is)
          (c.compare.ensures.covered w.if-compare.false (λ q q_within other none. c.requires.stable q q_within none))
    ]

pub returns-clause-left : goal.returns-clause-left
returns-clause-left c = λ rows longer gain left.
    let queue = queue_of c.args.queues.now c.args.p in
    let before = AreLeft-gain _ rows longer c.args.queues.now c.args.floor.now c.args.p c.args.clock.now queue
    (queue ++ c.args.clock.now ∷ []) c.requires.within (ap (λ q. q ++ c.args.clock.now ∷ [])
    (sym (get_or_default c.args.queues.now c.args.p queue [] c.requires.within))) gain left in
    let none = c.requires.stable c.args.p c.requires.within (sym c.has_head.ensures ∙ c.if-has_head.false) in
    let added = c.compare.ensures.left longer _
    (LeavesQueue-alone _ c.args.p c.args.clock.now c.args.queues.now c.requires.within none) before in
    elim c.if-compare.branch [
      | then-compare w ↦ rw (w.queues-is, w.floor-is) (w.eliminate.ensures.left longer added)
      | else-compare w ↦ rw (w.queues-is, w.floor-is) added
    ]

pub returns-clause-cut : goal.returns-clause-cut
returns-clause-cut c = rw (sym c.len-n.ensures) c.find_cut.ensures
