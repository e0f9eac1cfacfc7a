use Rattle.trace_moment.proofs.Words.{◌∙◌}
use Rattle.trace_moment.proofs.KeptSteps.{KeepLeft-more, watched_dropped}
use Rattle.trace_moment.proofs.elimination.eliminate.Goals as goal

pub loop-place-preserved : goal.loop-place-preserved
loop-place-preserved c = record {
  left = λ taken all are last left under. KeepLeft-more taken all c.loop-place.queues c.in-Some.place
      c.index-queues-place.result c.drop_first.new.self c.in-Some.ensures.within last
      (c.loop-place.invariant.left taken all are last left under) c.raise.new.floors c.drop_first.ensures
      c.in-Some.ensures.passed c.raise.ensures;
  watched = watched_dropped c.loop-place.queues c.in-Some.place c.index-queues-place.result c.drop_first.new.self
      c.drop_first.ensures ∙ c.loop-place.invariant.watched;
}
