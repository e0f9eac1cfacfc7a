use Rattle.wcp_queue.proofs.Words.{length, arith}
use Rattle.wcp_queue.proofs.LeftQueues.{AreLeft-under, AreLeft-raised}
use Rattle.wcp_queue.proofs.RaisedFloor.{RaisesFloor-counted}
use Rattle.wcp_queue.proofs.SoundCheckers.{tests_each-several}
use Rattle.wcp_queue.proofs.elimination.compare.Goals as goal

pub is_above-requires-clause-room : goal.is_above-requires-clause-room
is_above-requires-clause-room c = λ several.
    omega (
      arith,
      c.requires.room,
      tests_each-several (length c.args.queues.now) (omega (arith, several, c.len-n.ensures)),
    )

pub returns-then-is_above-clause-left : goal.returns-then-is_above-clause-left
returns-then-is_above-clause-left c = λ rows before taken left.
    rw c.is_above.ensures.tests (AreLeft-under (length c.args.queues.now) rows before c.args.queues.now c.args.floor.now
    left c.args.p c.args.clock.now c.requires.within c.requires.no_head taken _
    (omega (arith, (c.is_above.ensures.above.0 c.if-is_above.true).1, c.get.ensures)))

pub returns-clause-left : goal.returns-clause-left
returns-clause-left c = λ rows before taken left.
    AreLeft-raised (length c.args.queues.now) rows before c.args.queues.now c.args.floor.now left c.args.p
    c.args.clock.now c.requires.within c.requires.no_head taken c.set_head.new.self
    (RaisesFloor-counted _ _ _ _ _ _ (λ several. grind arith) c.set_head.ensures.head c.set_head.ensures.own
    (rw (c.is_above.ensures.tests, c.len-n.ensures) at c.set_head.ensures.rises))
