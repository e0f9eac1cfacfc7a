use Rattle.wcp_order.proofs.Words.{filter, arith, is_task_of, HasGrown, IsSoundProgress, history_at}
use Rattle.wcp_order.proofs.Advancing.{IsProgress_none}
use Rattle.wcp_order.proofs.Concluding.{IsProgress_same, length_order-le}
use Rattle.wcp_order.proofs.Histories.{IsHistory_filter}
use Rattle.wcp_order.proofs.order.search.Goals as goal
use Rattle.wcp_order.proofs.order.search.Goals.{In_ok-round}

-- the progress after a round, by the tasks themselves
sound : (c : In_ok-round) → IsSoundProgress c.args.n (λ p. filter (is_task_of p) c.args.tasks.now) c.round.new.self
sound c = IsProgress_same c.args.n (history_at c.deref.result.now) (λ p. filter (is_task_of p) c.args.tasks.now) _ _ _
    (λ p below. rw c.deref.ensures.value (c.in_ok-histories.ensures.tasks p below)) c.in_ok-round.ensures.sound

pub loop-progress-init : goal.loop-progress-init
loop-progress-init c =
    let new = c.in_ok-progress.ensures in
    IsProgress_none c.args.n (history_at c.in_ok-histories.histories.items) _ _ _ new.order new.done new.channels

pub round-requires-clause-histories : goal.round-requires-clause-histories
round-requires-clause-histories c = λ p below.
    rw (c.deref.ensures.value, c.in_ok-histories.ensures.tasks p below)
    (IsHistory_filter c.args.n p c.args.tasks.now c.requires.within)

pub loop-progress-smaller : goal.loop-progress-smaller
loop-progress-smaller c =
    let grown : HasGrown c.loop-progress.progress c.round.new.self =
    rw c.if-branch.true at c.in_ok-round.ensures.grown in
    omega (
      arith,
      grown,
      length_order-le c.args.n c.args.tasks.now _ _ _ c.requires.within (sound
          (goal.at.loop-progress-smaller c).In_ok-round),
    )

pub conclude-requires-clause-sound : goal.conclude-requires-clause-sound
conclude-requires-clause-sound c = sound (goal.at.conclude-requires-clause-sound c).In_ok-round
