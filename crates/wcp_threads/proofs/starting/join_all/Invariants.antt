use Rattle.wcp_threads.proofs.Words.{◌≡◌, ◌++◌, map, vec_items, into_iter_items, AreEndsOf}
use Rattle.wcp_threads.proofs.starting.join_all.Given as goal

abbrev pub invariant-loop-thread : goal.invariant-loop-thread
invariant-loop-thread g l = record {
  whole : l.yielded ++ into_iter_items l.thread-iterator ≡ vec_items l.fn.threads;
  ends : AreEndsOf g.P.Part.is_end (map (λ h. h.promise.0.value) l.yielded) (vec_items l.room);
}
