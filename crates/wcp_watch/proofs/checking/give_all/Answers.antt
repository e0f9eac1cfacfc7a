use Rattle.wcp_watch.proofs.Words.{◌++◌, List, take, sym, ◌∙◌, subst, refl, Item, ItemsMayFollow, ItemMayFollow}
use Rattle.wcp_watch.proofs.Words.{arith, take_all, one_may_follow, TakesItems, ◌∷◌, [], IsOfLane, get_or, no_question, question_at}
use Rattle.wcp_watch.proofs.CheckedItems.{may_all_take, more_taken, last_taken, takes_same, still_of_lane}
use Rattle.wcp_watch.proofs.CheckedItems.{as_many_processes, first_stands}
use Rattle.wcp_watch.proofs.checking.give_all.Goals as goal

pub take-requires : goal.take-requires
take-requires c =
    let taker = c.requires.0 in
    let keeps = c.requires.1 in
    let old = c.loop-item.invariant in
    let items : List Item = c.items-items.result.now in
    let i = c.loop-item.item-index in
    let item : Item = c.item-item.result in
    let follow = subst (ItemsMayFollow taker.members taker.taken) (sym c.items-items.ensures.value) c.requires.2 in
    let one = one_may_follow taker.members taker.taken items i item c.loop-item-test.true follow in
    may_all_take taker (taker.taken ++ take i items) c.loop-item.panel item
    (still_of_lane taker taker c.args.panel.now c.loop-item.panel refl old.same keeps.of_lane)
    (old.taken taker.taken keeps.stands)
    (subst (ItemMayFollow taker.members (taker.taken ++ take i items)) (sym c.item-item.is) one)

pub loop-item-preserved : goal.loop-item-preserved
loop-item-preserved c =
    let taker = c.requires.0 in
    let keeps = c.requires.1 in
    let old = c.loop-item.invariant in
    let items : List Item = c.items-items.result.now in
    let i = c.loop-item.item-index in
    let item : Item = c.item-item.result in
    let now = c.loop-item.panel in
    let new = c.take.new.self in
    let step = subst (λ (x : Item). TakesItems now new (x ∷ [])) c.item-item.is c.take.ensures.stand in
    let same = takes_same now new c.item-item.result c.take.ensures.each in
    let follow = subst (ItemsMayFollow taker.members taker.taken) (sym c.items-items.ensures.value) c.requires.2 in
    let one = one_may_follow taker.members taker.taken items i item c.loop-item-test.true follow in
    let stands = old.taken taker.taken keeps.stands in
    let of_lane = still_of_lane taker taker c.args.panel.now now refl old.same keeps.of_lane in
    let may = may_all_take taker (taker.taken ++ take i items) now (get_or items i item) of_lane stands one in
    let new_of_lane = still_of_lane taker taker now new refl same of_lane in
    record {
      same = record {
        processes = same.processes ∙ old.same.processes;
        watched = same.watched ∙ old.same.watched;
      };
      taken = more_taken c.args.panel.now now new items i item c.loop-item-test.true old.taken step;
      last = last_taken (question_at now 0) (question_at new 0) taker.taken items i item c.loop-item-test.true
          (as_many_processes now new 0 no_question same new_of_lane.some)
          (first_stands now (taker.taken ++ take i items) of_lane.some stands)
          (may 0 no_question of_lane.some)
          (first_stands new ((taker.taken ++ take i items) ++ get_or items i item ∷ []) new_of_lane.some
          (step (taker.taken ++ take i items) stands));
    }

pub returns-clause-taken : goal.returns-clause-taken
returns-clause-taken c =
    let old = c.loop-item.invariant in
    let items : List Item = c.items-items.result.now in
    subst (TakesItems c.args.panel.now c.loop-item.panel)
    (take_all c.loop-item.item-index items (omega arith) ∙ c.items-items.ensures.value) old.taken
