-- What a row's search took, and what it ends with.
use Rattle.trace_pairs.proofs.Words.{◌≡◌, ◌∙◌, ℕ, ◌<◌, Bool, true, false, List, [], ◌∷◌, ◌++◌, Result, Ok, Err, length}
use Rattle.trace_pairs.proofs.Words.{refl}
use Rattle.trace_pairs.proofs.Words.{sym, ap, subst, slice_index_or, get_or_default, Search, Taken, IsNextAt}
use Rattle.trace_pairs.proofs.Words.{HasNoMoment, MatchBool}
use Rattle.std.proofs.lemmas.List.{set-get_or}
use Rattle.std.specs.Prelude.{slice_set, IfOk}
use Rattle.std.specs.declared.alloc.AllocError.{AllocError}
use Rattle.trace_moment.specs.Search.{HasTaken, KeepsEarliest, TakesNext, is_known, watched_by}
use Rattle.trace_pairs.proofs.Words.{Logged}
use Rattle.trace_pairs.specs.declared.hosts.MatchedHost.{MatchedHost}
use Rattle.trace_pairs.specs.Searching.{TakesHost, TakesHostAt}
use Rattle.trace_pairs.specs.Rows.{Ends, TakesAt}

pub takes_at : (old : List Search) (at watched : ℕ) (next : Taken) (one new : Search) (answer : Result Bool AllocError)
    → ((other : Search) → one ≡ slice_index_or old at other) → watched_by new ≡ watched_by one
    → ((taken : List Taken) → HasTaken taken one → IsNextAt (watched_by one) watched taken next.logged
    → TakesNext taken next answer new)
    → IfOk answer (λ known. TakesAt at watched next old (slice_set old at new) known)
takes_at old at watched next one new (Err _) is same takes = tt
takes_at old at watched next one new (Ok known) is same takes = record {
  search = new;
  set = refl;
  same = λ other. same ∙ ap watched_by (is other);
  takes = λ other taken had follows. takes taken (subst (λ (s : Search). HasTaken taken s) (sym (is other)) had)
      (subst (λ (s : Search). IsNextAt (watched_by s) watched taken next.logged) (sym (is other)) follows);
}

pub ends_at : (old : List Search) (at : ℕ) (one new : Search) (known : Bool)
    → ((other : Search) → one ≡ slice_index_or old at other) → watched_by new ≡ watched_by one
    → known ≡ is_known new → (known ≡ false → new ≡ one)
    → ((taken : List Taken) → HasTaken taken one → MatchBool known (KeepsEarliest taken new)
    (HasNoMoment (watched_by new) taken))
    → Ends at old known (slice_set old at new)
ends_at old at one new known is same answer none moment = record {
  search = new;
  set = refl;
  same = λ other. same ∙ ap watched_by (is other);
  answer = answer;
  moment = λ other taken had. moment taken (subst (λ (s : Search). HasTaken taken s) (sym (is other)) had);
  none = λ fails. ap (λ (s : Search). slice_set old at s) (none fails ∙ is new) ∙ set-get_or old at new;
}

pub takes_host_at : (old : List MatchedHost) (place : ℕ) (one : Logged) (was host : MatchedHost)
    (answer : Result Bool AllocError) → ((other : MatchedHost) → was ≡ slice_index_or old place other)
    → IfOk answer (λ holds. TakesHost was one holds host)
    → IfOk answer (λ holds. TakesHostAt place old one holds (slice_set old place host))
takes_host_at old place one was host (Err _) is takes = tt
takes_host_at old place one was host (Ok holds) is takes = record {
  host = host;
  set = refl;
  takes = λ before. subst (λ (h : MatchedHost). TakesHost h one holds host) (is before) takes;
}
