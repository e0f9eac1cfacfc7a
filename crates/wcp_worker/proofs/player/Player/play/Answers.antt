use Rattle.wcp_worker.proofs.Words.{false, List, [], ◌∷◌, ◌++◌, sym, subst, arith, take_more, Action, HasDoneActions}
use Rattle.wcp_model.specs.declared.workload.Action.TheVariants as action
use Rattle.wcp_worker.proofs.OneMoreAction.{done_more}
use Rattle.wcp_worker.proofs.player.Player.play.Goals as goal

pub loop-step-preserved : goal.loop-step-preserved
loop-step-preserved g c =
    let more = c.in_ok-perform.ensures.done in
    let old = c.loop-step.invariant in (
      old.0 ++ more.0 ∷ [],
      subst
          (λ (actions : List Action). HasDoneActions c.args.self.now actions (old.0 ++ more.0 ∷ []) c.perform.new.self)
          (sym (take_more c.args.actions.now c.loop-step.step (action.Observe false) (omega arith)))
          (done_more c.args.self.now c.loop-step.self c.perform.new.self _ old.0 _ more.0 old.1 more.1
          c.in_ok-perform.ensures.same),
    )
