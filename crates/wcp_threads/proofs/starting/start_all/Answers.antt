use Rattle.wcp_threads.proofs.Words.{◌≡◌, suc, ◌∷◌, ◌++◌, map, sym, subst, arith, All, vec_items, into_iter_items}
use Rattle.wcp_threads.proofs.JoinedParts.{started_more}
use Rattle.wcp_threads.proofs.starting.start_all.Goals as goal

pub loop-part-preserved : goal.loop-part-preserved
loop-part-preserved g c =
    let old = c.loop-part.invariant in
    let next : into_iter_items c.loop-part.part-iterator ≡ c.in-Some.part ∷ into_iter_items c.next.new.self =
    c.in-Some.ensures.steps.0 in
    let left = subst
    (λ xs. map (λ h. h.promise.0.value) (vec_items c.loop-part.room) ++ xs ≡ vec_items c.args.parts) next old.whole in
    record {
      whole = subst (λ xs. map (λ h. h.promise.0.value) xs ++ into_iter_items c.next.new.self ≡ vec_items c.args.parts)
          (sym c.in-Ok.ensures.items)
          (started_more (λ thread. thread.promise.0.value) (vec_items c.loop-part.room) c.in_ok-thread.thread
          c.in-Some.part (into_iter_items c.next.new.self) (vec_items c.args.parts)
          left c.in_ok-thread.ensures);
      ready = λ k d below. subst (All g.P.Part.is_ready) next old.ready (suc k) d (omega arith);
    }
