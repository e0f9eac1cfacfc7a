use Rattle.trace_pairs.proofs.Words.{◌≡◌, [], take, map}
use Rattle.trace_moment.specs.Moment.{watch_at}
use Rattle.trace_moment.specs.Search.{HasTaken, watched_by}
use Rattle.trace_pairs.specs.Kept.{all_kept, seen_events}
use Rattle.trace_pairs.specs.Thinned.{AreInTurn}
use Rattle.trace_pairs.proofs.kept.HostEvents.replay.Given as goal

abbrev pub invariant-loop-one : goal.invariant-loop-one
invariant-loop-one l = record {
  watched : watched_by l.search ≡ watched_by l.fn.search;
  taken : HasTaken [] l.fn.search → l.host ≡ (watch_at (watched_by l.fn.search) 0).host
      → AreInTurn (all_kept (seen_events l.host l.self))
      → HasTaken (take l.one-index (all_kept (seen_events l.host l.self))) l.search;
}
