-- What is kept of queues answers as the queues do.
use Rattle.trace_moment.proofs.Words.{◌≡◌, ℕ, ◌<◌, Bool, true, false, max, Option, Some, None, is_some, List, []}
use Rattle.trace_moment.proofs.Words.{◌∷◌, length, map, set, drop, slice_index, refl, sym, ◌∙◌, ap, arith}
use Rattle.trace_moment.proofs.Words.{cond, MatchBool, get_or-map, length-map, map-append, option_to_list}
use Rattle.trace_moment.proofs.Words.{Member, number_of, Logged, HostWatch, Lasting, While, At, Candidate, EventQueue}
use Rattle.trace_moment.proofs.Words.{empty_queue, queue_at, watched_by, first_of, first_among, prefix_clock, clock_of}
use Rattle.trace_moment.proofs.Words.{is_passed, is_passed_among, stands, lasts_to_floor, ending, ended_by, begun}
use Rattle.trace_moment.proofs.Words.{going_on, with_event, ArePassedByNone, AllStand, OneDoesNotStand, RiseTo}
use Rattle.std.proofs.lemmas.List.{map-set}
use Rattle.std.proofs.lemmas.Simd.{map-map}
use Rattle.std.specs.Prelude.{option_map, unwrap_or}
use Rattle.trace_moment.specs.Queues.{HaveFirsts, OneHasNone}
use Rattle.trace_moment.specs.Standing.{moment_among, no_event}
use Rattle.trace_moment.specs.Kept.{KeptCandidate, KeptQueue, kept_event, kept_candidate, kept_queue, numbers_in, AreKept}
use Rattle.trace_moment.specs.Kept.{none_kept, kept_at, watch_kept, watched_in, first_kept, event_kept, prefix_numbers}
use Rattle.trace_moment.specs.Kept.{numbers_of_first, ends_below, is_kept_to, stands_at, begun_with, ended_at, with_next}
use Rattle.trace_moment.specs.Kept.{NoneEndsBelow, RiseToNumbers, StandAtAll, OneFails, KeepFirsts, OneKeepsNone}
use Rattle.trace_moment.proofs.Left.{IsSameHost, watched_by-set, watch_at-queue}

-- What is kept of one queue.
module _ (watched : List HostWatch) where
  abbrev one_kept : Candidate → KeptCandidate
  one_kept = kept_candidate watched

  first_among_kept : (ended : List Candidate) (ongoing : Option Candidate)
      → first_among (map (kept_candidate watched) ended) (option_map (kept_candidate watched) ongoing)
      ≡ option_map (kept_candidate watched) (first_among ended ongoing)
  first_among_kept [] ongoing = refl
  first_among_kept (one ∷ others) ongoing = refl

  pub first_same : (queue : EventQueue)
      → first_kept (kept_queue watched queue) ≡ option_map (kept_candidate watched) (first_of queue)
  first_same queue = first_among_kept queue.ended queue.ongoing

  is_some_same : (first : Option Candidate) → is_some (option_map (kept_candidate watched) first) ≡ is_some first
  is_some_same None = refl
  is_some_same (Some one) = refl

  pub has_first_same : (queue : EventQueue) → is_some (first_kept (kept_queue watched queue)) ≡ is_some (first_of queue)
  has_first_same queue = ap is_some (first_same queue) ∙ is_some_same (first_of queue)

  passed_among_same : (floor : ℕ) (ended : List Candidate)
      → ends_below floor (map (kept_candidate watched) ended) ≡ is_passed_among floor ended
  passed_among_same floor [] = refl
  passed_among_same floor (one ∷ others) = refl

  pub passed_same : (queue : EventQueue) (floor : ℕ)
      → ends_below floor (kept_queue watched queue).ended ≡ is_passed queue floor
  passed_same queue floor = passed_among_same floor queue.ended

  stands_among_same : (floor : ℕ) (first : Option Candidate)
      → is_kept_to floor (option_map (kept_candidate watched) first) ≡ lasts_to_floor floor first
  stands_among_same floor None = refl
  stands_among_same floor (Some one) = refl

  pub stands_same : (queue : EventQueue) (floor : ℕ) → stands_at (kept_queue watched queue) floor ≡ stands queue floor
  stands_same queue floor = ap (is_kept_to floor) (first_same queue) ∙ stands_among_same floor (first_of queue)

  numbers_among_same : (first : Option Candidate) (latest : List Member)
      → numbers_of_first (option_map (kept_candidate watched) first) (numbers_in watched latest)
      ≡ numbers_in watched (clock_of first latest)
  numbers_among_same None latest = refl
  numbers_among_same (Some one) latest = refl

  pub numbers_same : (queue : EventQueue)
      → prefix_numbers (kept_queue watched queue) ≡ numbers_in watched (prefix_clock queue)
  numbers_same queue =
      ap (λ (first : Option KeptCandidate). numbers_of_first first (numbers_in watched queue.latest)) (first_same queue)
      ∙ numbers_among_same (first_of queue) queue.latest

  pub drop_same : (ended : List Candidate)
      → drop 1 (map (kept_candidate watched) ended) ≡ map (kept_candidate watched) (drop 1 ended)
  drop_same [] = refl
  drop_same (one ∷ others) = refl

  pub dropped_same : (queue : EventQueue)
      → record (kept_queue watched queue) { ended = drop 1 (kept_queue watched queue).ended }
      ≡ kept_queue watched (record queue { ended = drop 1 queue.ended })
  dropped_same queue =
      ap (λ (ended : List KeptCandidate). record (kept_queue watched queue) { ended = ended }) (drop_same queue.ended)

  -- The host's next event.
  ended_same : (number : ℕ) (lasting : Lasting) (before now : Option Candidate)
      → map (ended_at number) (option_to_list (ending lasting (option_map (kept_candidate watched) before)
      (option_map (kept_candidate watched) now)))
      ≡ map (kept_candidate watched) (map (ended_by number) (option_to_list (ending lasting before now)))
  ended_same number While None now = refl
  ended_same number While (Some one) now = refl
  ended_same number At before None = refl
  ended_same number At before (Some one) = refl

  begun_same : (number : ℕ) (logged : Logged) (holds : Bool)
      → begun_with (kept_event logged) (numbers_in watched logged.event.clock) number holds
      ≡ option_map (kept_candidate watched) (begun number logged holds)
  begun_same number logged true = refl
  begun_same number logged false = refl

  goes_on_same : (lasting : Lasting) (now : Option Candidate)
      → going_on lasting (option_map (kept_candidate watched) now)
      ≡ option_map (kept_candidate watched) (going_on lasting now)
  goes_on_same While now = refl
  goes_on_same At now = refl

  latest_same : (latest : List Member) (logged : Logged) (holds : Bool)
      → cond holds (numbers_in watched latest) (numbers_in watched logged.event.clock)
      ≡ numbers_in watched (cond holds latest logged.event.clock)
  latest_same latest logged true = refl
  latest_same latest logged false = refl

  pub next_same : (queue : EventQueue) (logged : Logged) (holds : Bool)
      → with_next (kept_queue watched queue) logged (numbers_in watched logged.event.clock) holds
      ≡ kept_queue watched (with_event queue logged holds)
  next_same queue logged holds =
      let number = number_of queue.host logged.event.clock in
      let now = begun number logged holds in
      rw (
        begun_same number logged holds,
        ended_same number queue.lasting queue.ongoing now,
        ← map-append (kept_candidate watched) queue.ended
            (map (ended_by number) (option_to_list (ending queue.lasting queue.ongoing now))),
        goes_on_same queue.lasting now,
        latest_same queue.latest logged holds,
      ) refl

  -- The event of the first candidate.
  event_among_same : (first : Option Candidate)
      → unwrap_or (option_map (λ (one : KeptCandidate). one.event) (option_map (kept_candidate watched) first))
      (record { line = 0; text = [] })
      ≡ kept_event (unwrap_or (option_map (λ (one : Candidate). one.logged) first) no_event)
  event_among_same None = refl
  event_among_same (Some one) = refl

-- The numbers of a clock by the hosts of what is kept.
number_at : (queues : List EventQueue) (clock : List Member) (q : ℕ) → q < length queues
    → slice_index (numbers_in (watched_by queues) clock) q ≡ number_of (queue_at queues q).host clock
number_at queues clock q within =
    get_or-map (λ (watch : HostWatch). number_of watch.host clock) (watched_by queues) q
    (record { host = []; lasting = While }) 0 (omega (
      arith,
      length-map {B = HostWatch} queues
          (λ queue. record { host = queue.host; lasting = queue.lasting }),
    ))
    ∙ ap (λ (watch : HostWatch). number_of watch.host clock) (watch_at-queue queues q within)

-- What is kept of all queues.
module _ (kept : List KeptQueue) (queues : List EventQueue) (are : AreKept kept queues) where
  pub as_many : length kept ≡ length queues
  as_many = ap (λ (all : List KeptQueue). length all) are ∙ length-map queues (kept_queue (watched_by queues))

  pub kept_is : (p : ℕ) → p < length queues → kept_at kept p ≡ kept_queue (watched_by queues) (queue_at queues p)
  kept_is p within = ap (λ (all : List KeptQueue). kept_at all p) are
      ∙ get_or-map (kept_queue (watched_by queues)) queues p (empty_queue [] While) (none_kept [] While []) within

  pub watched_same : watched_in kept ≡ watched_by queues
  watched_same = ap watched_in are ∙ map-map watch_kept (kept_queue (watched_by queues)) queues

  pub numbers_kept : (clock : List Member) → map (λ (queue : KeptQueue). number_of queue.host clock) kept
      ≡ numbers_in (watched_by queues) clock
  numbers_kept clock = sym (map-map (λ (watch : HostWatch). number_of watch.host clock) watch_kept kept)
      ∙ ap (λ (watched : List HostWatch). numbers_in watched clock) watched_same

  -- One queue was changed.
  pub AreKept-set : (place : ℕ) (changed : KeptQueue) (queue : EventQueue) → IsSameHost queues place queue
      → changed ≡ kept_queue (watched_by queues) queue → AreKept (set kept place changed) (set queues place queue)
  AreKept-set place changed queue same is =
      ap (λ (all : List KeptQueue). set all place changed) are
      ∙ ap (λ (one : KeptQueue). set (map (kept_queue (watched_by queues)) queues) place one) is
      ∙ sym (map-set (kept_queue (watched_by queues)) queues place queue)
      ∙ ap (λ (watched : List HostWatch). map (kept_queue watched) (set queues place queue))
      (sym (watched_by-set queues place queue same))

  module _ (floors : List ℕ) where
    pub passed_at : (p : ℕ) → p < length queues
        → ends_below (slice_index floors p) (kept_at kept p).ended
        ≡ is_passed (queue_at queues p) (slice_index floors p)
    passed_at p within = ap (λ (queue : KeptQueue). ends_below (slice_index floors p) queue.ended) (kept_is p within)
        ∙ passed_same (watched_by queues) (queue_at queues p) (slice_index floors p)

    pub none_passed : NoneEndsBelow kept floors → ArePassedByNone queues floors
    none_passed none p within = sym (passed_at p within) ∙ none p (omega (arith, as_many))

    stands_here : (p : ℕ) → p < length queues
        → stands_at (kept_at kept p) (slice_index floors p) ≡ stands (queue_at queues p) (slice_index floors p)
    stands_here p within = ap (λ (queue : KeptQueue). stands_at queue (slice_index floors p)) (kept_is p within)
        ∙ stands_same (watched_by queues) (queue_at queues p) (slice_index floors p)

    pub all_stand : (known : Bool) → MatchBool known (StandAtAll kept floors) (OneFails kept floors)
        → MatchBool known (AllStand queues floors) (OneDoesNotStand queues floors)
    all_stand true all = λ p within. sym (stands_here p within) ∙ all p (omega (arith, as_many))
    all_stand false (p, within, fails) =
        let here : p < length queues = omega (arith, as_many) in (p, here, sym (stands_here p here) ∙ fails)

  first_here : (p : ℕ) → p < length queues
      → is_some (first_kept (kept_at kept p)) ≡ is_some (first_of (queue_at queues p))
  first_here p within = ap (λ (queue : KeptQueue). is_some (first_kept queue)) (kept_is p within)
      ∙ has_first_same (watched_by queues) (queue_at queues p)

  pub have_firsts : (all : Bool) → MatchBool all (KeepFirsts kept) (OneKeepsNone kept)
      → MatchBool all (HaveFirsts queues) (OneHasNone queues)
  have_firsts true firsts = λ p within. sym (first_here p within) ∙ firsts p (omega (arith, as_many))
  have_firsts false (p, within, none) =
      let here : p < length queues = omega (arith, as_many) in (p, here, sym (first_here p here) ∙ none)

  -- The floors rose to the numbers of a queue.
  pub RiseTo-kept : (place : ℕ) (old new : List ℕ) → place < length queues → RiseToNumbers kept place old new
      → RiseTo queues place old new
  RiseTo-kept place old new within rise = record {
    itself = rise.itself;
    others = λ q q_within apart.
        let known : slice_index (prefix_numbers (kept_at kept place)) q
        ≡ number_of (queue_at queues q).host (prefix_clock (queue_at queues place)) =
        ap (λ (queue : KeptQueue). slice_index (prefix_numbers queue) q) (kept_is place within)
        ∙ ap (λ (numbers : List ℕ). slice_index numbers q) (numbers_same (watched_by queues) (queue_at queues place))
        ∙ number_at queues (prefix_clock (queue_at queues place)) q q_within in
        rise.others q (omega (arith, as_many)) apart ∙ ap (λ (n : ℕ). max n (slice_index old q)) known;
  }

  -- The events of the first candidates.
  pub events_same : (p : ℕ) → p < length queues
      → kept_event (moment_among queues p) ≡ event_kept (kept_at kept p)
  events_same p within = sym (ap event_kept (kept_is p within)
      ∙ ap (λ (first : Option KeptCandidate). unwrap_or (option_map (λ one. one.event) first)
      (record { line = 0; text = [] })) (first_same (watched_by queues) (queue_at queues p))
      ∙ event_among_same (watched_by queues) (first_of (queue_at queues p)))
