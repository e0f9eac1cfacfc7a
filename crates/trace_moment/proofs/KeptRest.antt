-- What is kept of the queues where their first candidates are dropped and the floors rise.
use Rattle.std.proofs.lemmas.List.{ext_get_or}
use Rattle.std.proofs.lemmas.Simd.{map-map}
use Rattle.std.specs.Prelude.{option_map}
use Rattle.trace_moment.specs.Behind.{behind}
use Rattle.trace_moment.specs.Elimination.{IsUnderFloors}
use Rattle.trace_moment.specs.Queues.{goes_on_behind, without_first}
use Rattle.trace_moment.specs.Kept.{KeptQueue, kept_candidate, kept_queue, kept_at, none_kept, AreKept, watched_in}
use Rattle.trace_moment.specs.Kept.{without_kept, watch_kept, RiseToNumbers, NoneEndsBelow, StandAtAll, OneFails}
use Rattle.trace_moment.specs.Keeping.{KeepAll, KeepLeft, KeepAllTaken}
use Rattle.trace_moment.proofs.Words.{◌≡◌, ◌∙◌, ◌<◌, ◌+◌, ℕ, Bool, Option, List, [], ◌∷◌, length, map}
use Rattle.trace_moment.proofs.Words.{refl, sym, ap, subst, arith, cases_eq, get_or-map, length-map, MatchBool}
use Rattle.trace_moment.proofs.Words.{Logged, HostWatch, Taken, HaveDistinctHosts, IsEarliest, While, Candidate}
use Rattle.trace_moment.proofs.Words.{EventQueue, watched_by, LastKnowsAll, AreLeft, AreUnderFloors, RiseTo}
use Rattle.trace_moment.proofs.Behind.{LastKnowsAll-behind}
use Rattle.trace_moment.proofs.Left.{AreLeft-raised}
use Rattle.trace_moment.proofs.Rest.{AreLeft-behind, watched_rest}
use Rattle.trace_moment.proofs.KeptQueues.{as_many, drop_same, none_passed, RiseTo-kept, watched_same}
use Rattle.trace_moment.proofs.KeptAll.{KeepTaken-settled}

-- The first candidate of each host was dropped.
module _ (watched : List HostWatch) where
  goes_on_same : (ended : List Candidate) (ongoing : Option Candidate)
      → goes_on_behind (map (kept_candidate watched) ended) (option_map (kept_candidate watched) ongoing)
      ≡ option_map (kept_candidate watched) (goes_on_behind ended ongoing)
  goes_on_same [] ongoing = refl
  goes_on_same (one ∷ others) ongoing = refl

  without_same : (queue : EventQueue)
      → without_kept (kept_queue watched queue) ≡ kept_queue watched (without_first queue)
  without_same queue = rw (drop_same watched queue.ended, goes_on_same queue.ended queue.ongoing) refl

  all_without_same : (queues : List EventQueue)
      → map without_kept (map (kept_queue watched) queues) ≡ map (kept_queue watched) (map without_first queues)
  all_without_same [] = refl
  all_without_same (queue ∷ others) = rw (without_same queue, all_without_same others) refl

AreKept-rest : (kept : List KeptQueue) (queues : List EventQueue) → AreKept kept queues
    → AreKept (map without_kept kept) (map without_first queues)
AreKept-rest kept queues are = ap (λ (all : List KeptQueue). map without_kept all) are
    ∙ all_without_same (watched_by queues) queues
    ∙ ap (λ (watched : List HostWatch). map (kept_queue watched) (map without_first queues)) (sym (watched_rest queues))

pub watched_without : (kept : List KeptQueue) → watched_in (map without_kept kept) ≡ watched_in kept
watched_without kept = map-map watch_kept without_kept kept

pub all_dropped : (old new : List KeptQueue) (n : ℕ) → length new ≡ length old → n ≡ length old
    → ((p : ℕ) → p < n → kept_at new p ≡ without_kept (kept_at old p)) → new ≡ map without_kept old
all_dropped old new n many whole dropped =
    let as_many : length (map without_kept old) ≡ length old = length-map old without_kept in
    ext_get_or (none_kept [] While []) new (map without_kept old) (omega (arith, many, as_many))
    (λ p within. dropped p (omega (arith, whole, many, within))
    ∙ sym (get_or-map without_kept old p (none_kept [] While []) (none_kept [] While [])
    (omega (arith, many, within))))

-- The floors of the other hosts rise to what the head of one more host knows of them.
module _ (kept : List KeptQueue) (place : ℕ) (old new : List ℕ) (within : place < length kept)
    (rise : RiseToNumbers kept place old new) (queues : List EventQueue) (are : AreKept kept queues) where
  rises : RiseTo queues place old new
  rises = RiseTo-kept kept queues are place old new (omega (arith, within, as_many kept queues are)) rise

  pub AreLeft-rises : (taken : List Taken) → LastKnowsAll taken → AreLeft taken queues old → AreLeft taken queues new
  AreLeft-rises taken last left =
      AreLeft-raised taken queues old new place (omega (arith, within, as_many kept queues are)) last rises left

  pub IsUnderFloors-rises : ((p : ℕ) → p < place → IsUnderFloors queues old p) → (p : ℕ) → p < place + 1
      → IsUnderFloors queues new p
  IsUnderFloors-rises under p p_within q q_within apart = grind (arith, cases_eq, rises.itself, rises.others)

-- Behind the moment elimination begins with the candidates that wait there.
pub KeepAllTaken-behind : (taken : List Taken) (moment : ℕ → Logged) (kept others : List KeptQueue)
    (floors raised new : List ℕ) (known : Bool) → KeepAll taken kept floors
    → IsEarliest (watched_in kept) taken moment
    → ((all : List Taken) (queues : List EventQueue) → AreKept (map without_kept kept) queues → LastKnowsAll all
    → AreLeft all queues floors → AreLeft all queues raised × AreUnderFloors queues raised)
    → ((all : List Taken) (queues : List EventQueue) → AreKept (map without_kept kept) queues → LastKnowsAll all
    → AreLeft all queues raised → AreUnderFloors queues raised → KeepLeft all queues others new)
    → NoneEndsBelow others new → MatchBool known (StandAtAll others new) (OneFails others new)
    → KeepAllTaken (behind (watched_in kept) moment taken) others new known
KeepAllTaken-behind taken moment kept others floors raised new known has is rise leaves settled stand =
    let same = watched_same kept has.queues has.are in
    let earliest : IsEarliest (watched_by has.queues) taken moment =
    subst (λ (watched : List HostWatch). IsEarliest watched taken moment) same is in
    let now = behind (watched_by has.queues) moment taken in
    let rest = map without_first has.queues in
    let are = AreKept-rest kept has.queues has.are in
    let last = LastKnowsAll-behind (watched_by has.queues) moment taken has.last in
    let higher = rise now rest are last (AreLeft-behind has.queues taken floors has.distinct has.last has.left
    has.under has.settled moment earliest) in
    let left = leaves now rest are last higher.0 higher.1 in
    let all : KeepAll now others new = record {
      queues = left.others;
      are = left.are;
      distinct = subst HaveDistinctHosts (sym (left.watched ∙ watched_rest has.queues)) has.distinct;
      last = last;
      left = left.left;
      under = left.under;
      settled = none_passed others left.others left.are new settled;
    } in
    subst (λ (watched : List HostWatch). KeepAllTaken (behind watched moment taken) others new known) (sym same)
    (record { all = all; taken_all = KeepTaken-settled now others new known all stand })
