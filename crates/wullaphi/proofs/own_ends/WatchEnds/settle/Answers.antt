use Rattle.std.proofs.Common.{subst}
use Rattle.std.specs.Prelude.{IfOk}
use Rattle.wullaphi.proofs.OwnWatches.{come, own_answer}
use Rattle.wullaphi.specs.OwnEnds.{AreSettled}
use Rattle.wullaphi.proofs.own_ends.WatchEnds.settle.Goals as goal

pub settle-requires : goal.settle-requires
settle-requires g c = come c.self.invariant c.in-Some.is

pub returns-clause-settled : goal.returns-clause-settled
returns-clause-settled g c =
    subst (λ ends. IfOk c.settle.result (AreSettled g.W.Opening.opened ends c.args.book)) c.self.view_is
    (own_answer c.self.invariant c.in-Some.is c.args.book c.settle.result c.settle.ensures.settled)
