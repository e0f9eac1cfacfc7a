use Rattle.wcp_worker.proofs.Words.{List, subst, Action, HasDoneActions}
use Rattle.wcp_worker.proofs.OneMoreAction.{all_played}
use Rattle.wcp_worker.proofs.worker.Worker.run.Goals as goal

pub returns-in-Ok : goal.returns-in-Ok
returns-in-Ok g c =
    let done = c.in_default.ensures.done in
    let all = subst (λ (actions : List Action). HasDoneActions c.args.self.player actions done.0 c.play-played.new.self)
    c.deref.ensures.value done.1 in (
      done.0,
      all_played c.args.self c.play-played.new.self done.0 c.close_in_watch-probe.result c.take_rest.new.self all
          c.close_in_watch-probe.ensures.closed (c.close_in_watch-probe.ensures.emitted done.0 done.1.stands)
          c.in-Ok.ensures.outboxes c.in-Ok.ensures.more,
    )
