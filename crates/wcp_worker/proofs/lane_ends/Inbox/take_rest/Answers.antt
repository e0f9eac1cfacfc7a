use Rattle.wcp_worker.proofs.Words.{◌∷◌, [], sym, seal_of}
use Rattle.wcp_worker.proofs.TakenMore.{more_none, more_more}
use Rattle.wcp_worker.proofs.lane_ends.Inbox.take_rest.Goals as goal

pub loop-init : goal.loop-init
loop-init g c q = more_none q c.args.self.now

pub loop-preserved : goal.loop-preserved
loop-preserved g c q =
    more_more q c.args.self.now c.loop.self c.take.new.self (c.loop.invariant q)
    (record {
      same = c.take.ensures.same;
      prefix = λ is. ((seal_of c.in_ok-take.field-0).clock ∷ [], sym (c.in_ok-take.ensures.taken q is));
    })
