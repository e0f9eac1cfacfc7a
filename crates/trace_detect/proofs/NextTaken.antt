-- What a watcher takes next of the events of a log.
use Rattle.trace_detect.proofs.Words.{◌≡◌, ◌∙◌, ℕ, Bool}
use Rattle.trace_detect.proofs.Words.{List, [], ◌∷◌, ◌++◌, Result, Ok, Err}
use Rattle.trace_detect.proofs.Words.{sym, ap, subst, arith, option_to_list, option_map}
use Rattle.trace_detect.proofs.Words.{slice_index_or, Logged}
use Rattle.trace_detect.proofs.Words.{FollowsIn, Taken, HostWatch, MayFollow, IsNextAt}
use Rattle.trace_detect.proofs.Words.{HasTaken, KeepsAll, KeepsNext, behind_last, LastWasTaken, Option}
use Rattle.trace_detect.proofs.Words.{IsWatchingBehind}
use Rattle.trace_detect.proofs.Words.{watched_by, TakesNext, Condition, rule_of, holds_at_last}
use Rattle.trace_detect.proofs.Words.{Judged, Watcher, watches, texts_at, taken_of}
use Rattle.trace_detect.proofs.Words.{JudgesOneAt, IsPlace, WatchesNext}
use Rattle.std.specs.Prelude.{OnOk}
use Rattle.trace_moment.specs.declared.search.Search.{Search}
use Rattle.trace_moment.specs.Search.{KeepsNext as SearchKeeps}
use Rattle.trace_moment.proofs.Further.{last-next, last-push, last-taken}
use Rattle.std.specs.declared.alloc.AllocError.{AllocError}
use Rattle.trace_detect.proofs.Taking.{taken_more}
use Rattle.trace_detect.proofs.Hosts.{found_is_of}
use Rattle.trace_detect.proofs.Knowing.{holds_own}
use Rattle.trace_detect.proofs.Watches.{watched_at, clock_same, judges_more}

-- The event that is taken next, and what was taken then.
module _ (conditions : List Condition) (told : Option (ℕ → Logged)) (before : List Logged) (one : Logged) (place : ℕ)
    (c : Condition) (old : Watcher) (watching : IsWatchingBehind conditions told before old)
    (follow : FollowsIn before one.event) (is_place : IsPlace one.event.host conditions place) where
  follows_taken : MayFollow (taken_of conditions before) one.event
  follows_taken =
      clock_same conditions before one (slice_index_or conditions place c) (is_place.first c) follow

  pub next_at : IsNextAt (watched_by old.search) place (behind_last (watches conditions) told (taken_of conditions before))
      one
  next_at = subst (λ (watched : List HostWatch). IsNextAt watched place
      (behind_last (watches conditions) told (taken_of conditions before)) one) (sym watching.watched)
      (last-next (watches conditions) told (taken_of conditions before) place one (record {
        host =
            sym (found_is_of one.event.host conditions (slice_index_or conditions place c) (is_place.first c))
            ∙ sym (watched_at conditions place c is_place.within);
        follows = follows_taken;
      }))

  module _ (judges : List Judged) (holds : Bool) (judged : JudgesOneAt place old.judges.items one.event.text holds judges)
    where
      pub taken_one : taken_of conditions before ++ record { logged = one; holds = holds } ∷ []
          ≡ taken_of conditions (before ++ one ∷ [])
      taken_one =
          let condition = slice_index_or conditions place c in
          let found = is_place.first c in
          let held = holds_own conditions before one condition (slice_index_or old.judges.items place judged.judge)
          judged.judge holds (found_is_of one.event.host conditions condition found)
          (watching.judges.each place c judged.judge is_place.within) (judged.next judged.judge) in
          ap (λ b. taken_of conditions before ++ record { logged = one; holds = b } ∷ []) held
          ∙ sym (taken_more conditions [] before one ∙ ap (λ o. taken_of conditions before ++ option_to_list
          (option_map (λ c. record
          { logged = one; holds = holds_at_last (rule_of c) (texts_at one.event.host (before ++ one ∷ [])) }) o)) found)

      taken_behind : behind_last (watches conditions) told (taken_of conditions before)
          ++ record { logged = one; holds = holds } ∷ []
          ≡ behind_last (watches conditions) told (taken_of conditions (before ++ one ∷ []))
      taken_behind = sym (last-push (watches conditions) told (taken_of conditions before)
          (record { logged = one; holds = holds }) watching.passed watching.taken.stand.last follows_taken)
          ∙ ap (λ taken. behind_last (watches conditions) told taken) taken_one

      passed_one : LastWasTaken (watches conditions) told (taken_of conditions (before ++ one ∷ []))
      passed_one = subst (λ taken. LastWasTaken (watches conditions) told taken) taken_one
          (last-taken (watches conditions) told (taken_of conditions before) (record { logged = one; holds = holds })
          watching.passed)

-- What the watcher took next.
takes_place : (conditions : List Condition) (told : Option (ℕ → Logged)) (before : List Logged) (one : Logged)
    (place : ℕ) (c : Condition) (old new : Watcher) (holds : Bool) (answer : Result Bool AllocError)
    → IsWatchingBehind conditions told before old → FollowsIn before one.event
    → IsPlace one.event.host conditions place
    → JudgesOneAt place old.judges.items one.event.text holds new.judges.items
    → new.conditions.now ≡ old.conditions.now → watched_by new.search ≡ watched_by old.search
    → ((taken : List Taken) → HasTaken taken old.search → IsNextAt (watched_by old.search) place taken one
    → TakesNext taken (record { logged = one; holds = holds }) answer new.search)
    → WatchesNext conditions told before one answer new
takes_place conditions told before one place c old new holds (Err fault) watching follow is_place judged
    same_conditions same_hosts takes = tt
takes_place conditions told before one place c old new holds
    (Ok known) watching follow is_place judged same_conditions same_hosts takes =
    let next = takes (behind_last (watches conditions) told (taken_of conditions before)) watching.taken
    (next_at conditions told before one place c old watching follow is_place) in (
      record {
        by = same_conditions ∙ watching.by;
        hosts = watching.hosts;
        judges = judges_more conditions before one place old.judges.items new.judges.items holds watching.hosts is_place
            watching.judges judged;
        watched = same_hosts ∙ watching.watched;
        passed = passed_one conditions told before one place c old watching follow is_place new.judges.items holds judged;
        taken = subst (λ taken. HasTaken taken new.search) (taken_behind conditions told before one place c old watching
            follow is_place new.judges.items holds judged) next.0;
      },
      next.1,
    )

-- And keeps.
keeps_place : (conditions : List Condition) (told : Option (ℕ → Logged)) (before : List Logged) (one : Logged)
    (place : ℕ) (c : Condition) (old : Watcher) (new : Search) (judges : List Judged) (holds : Bool)
    (answer : Result Bool AllocError) → IsWatchingBehind conditions told before old → FollowsIn before one.event
    → IsPlace one.event.host conditions place → JudgesOneAt place old.judges.items one.event.text holds judges
    → ((taken : List Taken) → HasTaken taken old.search → IsNextAt (watched_by old.search) place taken one
    → SearchKeeps taken (record { logged = one; holds = holds }) answer new)
    → OnOk answer (KeepsNext conditions told before one new)
keeps_place conditions told before one place c old new judges holds (Err fault) watching follow is_place judged keeps = tt
keeps_place conditions told before one place c old new judges holds (Ok known) watching follow is_place judged keeps =
    subst (λ taken. KeepsAll taken new) (taken_behind conditions told before one place c old watching
    follow is_place judges holds judged)
    (keeps (behind_last (watches conditions) told (taken_of conditions before)) watching.taken
    (next_at conditions told before one place c old watching follow is_place))

pub takes_at : (conditions : List Condition) (told : Option (ℕ → Logged)) (before : List Logged) (one : Logged)
    (place : ℕ) (old new : Watcher) (holds : Bool) (answer : Result Bool AllocError)
    → IsWatchingBehind conditions told before old → FollowsIn before one.event
    → IsPlace one.event.host conditions place
    → JudgesOneAt place old.judges.items one.event.text holds new.judges.items
    → new.conditions.now ≡ old.conditions.now → watched_by new.search ≡ watched_by old.search
    → ((taken : List Taken) → HasTaken taken old.search → IsNextAt (watched_by old.search) place taken one
    → TakesNext taken (record { logged = one; holds = holds }) answer new.search)
    → WatchesNext conditions told before one answer new
takes_at [] told before one place old new holds answer watching follow is_place judged same_conditions same_hosts takes =
    absurd (omega (arith, is_place.within))
takes_at (first ∷ others) told before one place old new holds answer watching follow is_place judged same_conditions
    same_hosts takes =
    takes_place (first ∷ others) told before one place first old new holds answer watching follow is_place judged
    same_conditions same_hosts takes

pub keeps_at : (conditions : List Condition) (told : Option (ℕ → Logged)) (before : List Logged) (one : Logged)
    (place : ℕ) (old : Watcher) (new : Search) (judges : List Judged) (holds : Bool) (answer : Result Bool AllocError)
    → IsWatchingBehind conditions told before old → FollowsIn before one.event
    → IsPlace one.event.host conditions place → JudgesOneAt place old.judges.items one.event.text holds judges
    → ((taken : List Taken) → HasTaken taken old.search → IsNextAt (watched_by old.search) place taken one
    → SearchKeeps taken (record { logged = one; holds = holds }) answer new)
    → OnOk answer (KeepsNext conditions told before one new)
keeps_at [] told before one place old new judges holds answer watching follow is_place judged keeps =
    absurd (omega (arith, is_place.within))
keeps_at (first ∷ others) told before one place old new judges holds answer watching follow is_place judged keeps =
    keeps_place (first ∷ others) told before one place first old new judges holds answer watching follow is_place judged keeps
