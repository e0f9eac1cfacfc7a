use Rattle.wcp_threads.proofs.Words.{◌≡◌, ◌++◌, map, All, vec_items, into_iter_items}
use Rattle.wcp_threads.proofs.starting.start_all.Given as goal

abbrev pub invariant-loop-part : goal.invariant-loop-part
invariant-loop-part g l = record {
  whole : map (λ h. h.promise.0.value) (vec_items l.room) ++ into_iter_items l.part-iterator ≡ vec_items l.fn.parts;
  ready : All g.P.Part.is_ready (into_iter_items l.part-iterator);
}
