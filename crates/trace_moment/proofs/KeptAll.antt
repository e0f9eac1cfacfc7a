-- Each candidate of what was taken is kept that elimination leaves.
use Rattle.trace_moment.proofs.Words.{◌∙◌, ℕ, Bool, false, List, [], ◌∷◌, ◌++◌, sym, subst, MatchBool, HostWatch}
use Rattle.trace_moment.proofs.Words.{Taken, HaveDistinctHosts, IsNextAt, EventQueue, watched_by, LastKnowsAll, AreLeft}
use Rattle.trace_moment.proofs.Words.{AreUnderFloors}
use Rattle.trace_moment.specs.Kept.{KeptQueue, AreKept, watched_in, NoneEndsBelow, StandAtAll, OneFails}
use Rattle.trace_moment.specs.Keeping.{KeepTaken, KeepAdded, KeepLeft, KeepAll}
use Rattle.trace_moment.proofs.Clocks.{comes_next, LastKnowsAll-push}
use Rattle.trace_moment.proofs.Steps.{StandFor-settled}
use Rattle.trace_moment.proofs.KeptQueues.{all_stand, none_passed, watched_same}

-- An event was added, and candidates that are over were dropped.
pub KeepAll-added : (taken : List Taken) (next : Taken) (place : ℕ) (kept added others : List KeptQueue)
    (floors added_floors new : List ℕ) → KeepTaken taken kept floors false
    → IsNextAt (watched_in kept) place taken next.logged
    → ((queues : List EventQueue) → AreKept kept queues → HaveDistinctHosts (watched_by queues) → LastKnowsAll taken
    → IsNextAt (watched_by queues) place taken next.logged → KeepAdded taken next queues added floors added_floors)
    → ((all : List Taken) (queues : List EventQueue) → AreKept added queues → LastKnowsAll all
    → AreLeft all queues added_floors → AreUnderFloors queues added_floors → KeepLeft all queues others new)
    → NoneEndsBelow others new → KeepAll (taken ++ next ∷ []) others new
KeepAll-added taken next place kept added others floors added_floors new has at adds leaves settled =
    let same = watched_same kept has.queues has.are in
    let at_queues : IsNextAt (watched_by has.queues) place taken next.logged =
    subst (λ (watched : List HostWatch). IsNextAt watched place taken next.logged) same at in
    let now = adds has.queues has.are has.stand.distinct has.stand.last at_queues in
    let last = LastKnowsAll-push taken next (comes_next taken next at.follows) has.stand.last in
    let now_left = now.adds.left has.stand.moment.left in
    let now_under = now.adds.under has.stand.moment.left has.stand.moment.under in
    let left = leaves (taken ++ next ∷ []) now.added now.are last now_left now_under in
    record {
      queues = left.others;
      are = left.are;
      distinct = subst HaveDistinctHosts (sym (left.watched ∙ now.watched)) has.stand.distinct;
      last = last;
      left = left.left;
      under = left.under;
      settled = none_passed others left.others left.are new settled;
    }

-- And it is known whether the first candidates are the moment.
pub KeepTaken-settled : (taken : List Taken) (kept : List KeptQueue) (floors : List ℕ) (known : Bool)
    → KeepAll taken kept floors → MatchBool known (StandAtAll kept floors) (OneFails kept floors)
    → KeepTaken taken kept floors known
KeepTaken-settled taken kept floors known has stand = record {
  queues = has.queues;
  are = has.are;
  stand = StandFor-settled taken has.queues floors known has.distinct has.last has.left has.under has.settled
      (all_stand kept has.queues has.are floors known stand);
}

-- While no moment is known each candidate is kept that elimination leaves.
pub KeepAll-searching : (taken : List Taken) (kept : List KeptQueue) (floors : List ℕ)
    → KeepTaken taken kept floors false → KeepAll taken kept floors
KeepAll-searching taken kept floors has = record {
  queues = has.queues;
  are = has.are;
  distinct = has.stand.distinct;
  last = has.stand.last;
  left = has.stand.moment.left;
  under = has.stand.moment.under;
  settled = has.stand.moment.settled;
}
