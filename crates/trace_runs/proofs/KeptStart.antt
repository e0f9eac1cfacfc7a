-- What is kept before the first event.
use Rattle.std.proofs.Common.{◌≡◌, ◌∙◌, sym, ap, subst, ℕ, ◌<◌, List, [], ◌∷◌, length, map, replicate, string_bytes}
use Rattle.std.proofs.Common.{refl, arith, None, get_or}
use Rattle.std.proofs.lemmas.List.{get_or-map, length-map}
use Rattle.std.proofs.lemmas.Simd.{map-map}
use Rattle.trace_log.specs.Clock.{Member}
use Rattle.trace_log.specs.Order.{clock_after, last_clock}
use Rattle.trace_log.proofs.Clocks.{no_number_of}
use Rattle.trace_moment.specs.declared.watched.Lasting.TheVariants.{While}
use Rattle.trace_moment.specs.declared.watched.WatchedHost.{WatchedHost}
use Rattle.trace_moment.specs.Moment.{HaveDistinctHosts, HostWatch}
use Rattle.trace_moment.specs.Views.{seen_watch}
use Rattle.trace_moment.specs.Kept.{numbers_in}
use Rattle.trace_definitely.proofs.Waits.{begins}
use Rattle.trace_runs.specs.Kept.{KeptRuns, kept_at, none_kept, watch_kept, watched_in}
use Rattle.trace_runs.specs.Keeping.{IsSearching, KeepWaiting}
use Rattle.trace_runs.proofs.KeptSteps.{as_many}
use Rattle.trace_runs.proofs.Unknown.{none_now}

abbrev pub fresh_of : ℕ → HostWatch → KeptRuns
fresh_of hosts watch = none_kept watch.host watch.lasting (replicate hosts 0)

abbrev pub fresh_kept : ℕ → WatchedHost → KeptRuns
fresh_kept hosts one = none_kept (string_bytes one.host) one.lasting (replicate hosts 0)

pub watched_fresh : (hosts : ℕ) (watched : List WatchedHost)
    → watched_in (map (fresh_kept hosts) watched) ≡ map seen_watch watched
watched_fresh hosts watched = map-map watch_kept (fresh_kept hosts) watched

no_numbers : (watched : List HostWatch) → numbers_in watched [] ≡ replicate (length watched) 0
no_numbers [] = refl
no_numbers (one ∷ others) =
    rw (← no_number_of one.host) (ap (λ (numbers : List ℕ). 0 ∷ numbers) (no_numbers others))

no_clock : (host : List ℕ) → last_clock host [] ≡ []
unfolding clock_after
no_clock host = refl

module _ (watched : List HostWatch) (kept : List KeptRuns) (some : 0 < length watched)
    (distinct : HaveDistinctHosts watched) (are : kept ≡ map (fresh_of (length watched)) watched) where
  watched_is : watched_in kept ≡ watched
  watched_is = ap watched_in are ∙ map-map watch_kept (fresh_of (length watched)) watched ∙ same watched
    where
      same : (all : List HostWatch) → map (λ (one : HostWatch). watch_kept (fresh_of (length watched) one)) all ≡ all
      same [] = refl
      same (one ∷ others) = ap (λ (rest : List HostWatch). one ∷ rest) (same others)

  many : length kept ≡ length watched
  many = sym (as_many kept) ∙ ap (λ (all : List HostWatch). length all) watched_is

  one_is : (p : ℕ) → p < length kept → (watch : HostWatch) × (kept_at kept p ≡ fresh_of (length watched) watch)
  one_is p within = (
    get_or watched p (record { host = []; lasting = While }),
    ap (λ (all : List KeptRuns). kept_at all p) are
        ∙ get_or-map (fresh_of (length watched)) watched p (record { host = []; lasting = While })
        (none_kept [] While []) (omega (arith, within, many)),
  )

  starts : KeepWaiting [] kept
  starts = record {
    distinct = subst HaveDistinctHosts (sym watched_is) distinct;
    rise = λ p i j host less inside. absurd (omega (arith, inside));
    last = λ one (k, within, is) name. absurd (omega (arith, within));
    waiting = λ p. [];
    waits = begins (watched_in kept);
    are = λ p within.
        let one = one_is p within in
        rw (one.1) (record {
          over = [];
          ongoing = None;
          runs_are = refl;
          over_kept = refl;
          ongoing_kept = refl;
          latest_kept = sym (ap (λ (clock : List Member). numbers_in (watched_in kept) clock) (no_clock one.0.host)
              ∙ ap (λ (all : List HostWatch). numbers_in all []) watched_is ∙ no_numbers watched);
        });
  }

  pub searching : IsSearching [] kept
  searching = record {
    keeps = starts;
    settled = λ q p within p_within apart. rw ((one_is q within).1) tt;
    none_known = none_now (watched_in kept) [] (λ p. []) (begins (watched_in kept)) starts.rise 0
        (omega (arith, some, ap (λ (all : List HostWatch). length all) watched_is)) refl;
  }

pub searching_start : (watched : List WatchedHost) (kept : List KeptRuns) → 0 < length watched
    → HaveDistinctHosts (map seen_watch watched) → kept ≡ map (fresh_kept (length watched)) watched
    → IsSearching [] kept
searching_start watched kept some distinct are =
    searching (map seen_watch watched) kept (omega (arith, some, length-map watched seen_watch)) distinct
    (are ∙ sym (ap (λ (n : ℕ). map (fresh_of n) (map seen_watch watched)) (length-map watched seen_watch)
    ∙ map-map (fresh_of (length watched)) seen_watch watched))
