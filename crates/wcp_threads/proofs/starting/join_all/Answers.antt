use Rattle.wcp_threads.proofs.Words.{◌≡◌, ◌∷◌, [], ◌++◌, map, sym, ap, ◌∙◌, subst, append_assoc, vec_items}
use Rattle.wcp_threads.proofs.Words.{into_iter_items, AreEndsOf}
use Rattle.wcp_threads.proofs.JoinedParts.{joined_more}
use Rattle.wcp_threads.proofs.starting.join_all.Goals as goal

pub loop-thread-preserved : goal.loop-thread-preserved
loop-thread-preserved g c =
    let old = c.loop-thread.invariant in
    let next : into_iter_items c.loop-thread.thread-iterator ≡ c.in-Some.thread ∷ into_iter_items c.next.new.self =
    c.in-Some.ensures.steps.0 in
    record {
      whole = append_assoc c.loop-thread.yielded (c.in-Some.thread ∷ []) (into_iter_items c.next.new.self)
          ∙ ap (λ xs. c.loop-thread.yielded ++ xs) (sym next) ∙ old.whole;
      ends = subst (AreEndsOf g.P.Part.is_end (map (λ thread. thread.promise.0.value)
          (c.loop-thread.yielded ++ c.in-Some.thread ∷ []))) (sym c.in-Ok.ensures.items)
          (joined_more (λ thread. thread.promise.0.value) g.P.Part.is_end c.loop-thread.yielded c.in-Some.thread
          (vec_items c.loop-thread.room) c.in_ok-end.end old.ends c.in_ok-end.ensures);
    }
