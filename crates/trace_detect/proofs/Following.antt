-- The moments of a log, one behind the other.
use Rattle.trace_detect.proofs.Words.{◌≡◌, ◌∙◌, ℕ, Bool, true, false, List, [], Option}
use Rattle.trace_detect.proofs.Words.{Some, inl, inr, sym, ap, subst}
use Rattle.trace_detect.proofs.Words.{append-nil, Logged, Taken, HostWatch, HasTaken, KeepsAll, watched_by}
use Rattle.trace_detect.proofs.Words.{is_known, Condition, Judged, Watcher, taken_of, watches, AreJudges}
use Rattle.trace_detect.proofs.Words.{IsWatchingBehind}
use Rattle.std.specs.Prelude.{IsTrue}
use Rattle.trace_log.specs.declared.turn.Form.{Form}
use Rattle.trace_moment.specs.declared.search.Search.{Search}
use Rattle.trace_moment.specs.Behind.{behind}
use Rattle.trace_moment.specs.Keeping.{KeepTaken}
use Rattle.trace_moment.specs.Moment.{IsEarliest, IsKnown}
use Rattle.trace_moment.specs.Search.{Keeps, KeepsEarliest}
use Rattle.trace_moment.specs.Standing.{NoneIsKnown}
use Rattle.trace_moment.proofs.Further.{last-behind, last-were}
use Rattle.trace_moment.proofs.KeptQueues.{watched_same}
use Rattle.trace_detect.specs.declared.answer.TraceAnswer.{TraceAnswer}
use Rattle.trace_detect.specs.declared.moments.Moments.{Moments}
use Rattle.trace_detect.specs.Moments.{AtEnd, AtEvent, AtOnce, IsFollowing}
use Rattle.trace_detect.specs.Moments.{IsKeeping, IsOnTheWay, KnowsNoneBehind}
use Rattle.trace_detect.specs.Moments.{TellsNext, taken_behind}
use Rattle.trace_detect.specs.Told.{found_told, told_by}
use Rattle.trace_detect.proofs.Detecting.{EndsWith, known_moment}
use Rattle.trace_detect.proofs.Watches.{watches_distinct}

-- Where a search knows none, none is known.
none_behind : (watched : List HostWatch) (taken : List Taken) (search : Search) → HasTaken taken search
    → watched_by search ≡ watched → is_known search ≡ false → NoneIsKnown watched taken
none_behind watched taken search had same is =
    let has : KeepTaken taken search.queues.items search.floors.items false =
    subst (λ (known : Bool). KeepTaken taken search.queues.items search.floors.items known) is had in
    subst (λ (w : List HostWatch). NoneIsKnown w taken)
    (sym (watched_same search.queues.items has.queues has.are) ∙ same) has.stand.moment.none_known

module _ (conditions : List Condition) (told : Option (ℕ → Logged)) (logged : List Logged) (watcher : Watcher) where
  pub knows_none_behind : IsWatchingBehind conditions told logged watcher → is_known watcher.search ≡ false
      → KnowsNoneBehind conditions told logged
  knows_none_behind watching unknown = none_behind (watches conditions) (taken_behind conditions told logged)
      watcher.search watching.taken watching.watched unknown

  pub watching_of : IsKeeping conditions told logged watcher
      → HasTaken (taken_behind conditions told logged) watcher.search
      → IsWatchingBehind conditions told logged watcher
  watching_of keeping had = record {
    by = keeping.by;
    hosts = keeping.hosts;
    judges = keeping.judges;
    watched = keeping.watched;
    passed = keeping.passed;
    taken = had;
  }

  pub keeping_of : IsWatchingBehind conditions told logged watcher
      → KeepsAll (taken_behind conditions told logged) watcher.search → IsKeeping conditions told logged watcher
  keeping_of watching all = record {
    by = watching.by;
    hosts = watching.hosts;
    judges = watching.judges;
    watched = watching.watched;
    passed = watching.passed;
    all = all;
  }

-- The search goes on behind a moment.
abbrev pub GoesBehind : Search → Search → Type 0
GoesBehind old new = (taken : List Taken) (moment : ℕ → Logged) → KeepsAll taken old → IsTrue (is_known old)
    → IsEarliest (watched_by old) taken moment → HasTaken (behind (watched_by old) moment taken) new
    × KeepsAll (behind (watched_by old) moment taken) new

pub goes_behind : (conditions : List Condition) (told : Option (ℕ → Logged)) (logged : List Logged)
    (moment : ℕ → Logged) (old new : Watcher) → IsKeeping conditions told logged old
    → IsEarliest (watches conditions) (taken_behind conditions told logged) moment → is_known old.search ≡ true
    → GoesBehind old.search new.search → new.conditions.now ≡ old.conditions.now
    → new.judges.items ≡ old.judges.items → watched_by new.search ≡ watched_by old.search
    → IsKeeping conditions (Some moment) logged new
    × HasTaken (taken_behind conditions (Some moment) logged) new.search
goes_behind conditions told logged moment old new keeping is known goes same_conditions same_judges same_hosts =
    let taken = taken_behind conditions told logged in
    let earliest : IsEarliest (watched_by old.search) taken moment =
    subst (λ (w : List HostWatch). IsEarliest w taken moment) (sym keeping.watched) is in
    let after = goes taken moment keeping.all known earliest in
    let same : behind (watched_by old.search) moment taken ≡ taken_behind conditions (Some moment) logged =
    ap (λ (w : List HostWatch). behind w moment taken) keeping.watched
    ∙ last-behind (watches conditions) told (taken_of conditions logged) moment
    (watches_distinct conditions keeping.hosts) is.one in (
      record {
        by = same_conditions ∙ keeping.by;
        hosts = keeping.hosts;
        judges = subst (λ (js : List Judged). AreJudges conditions logged js) (sym same_judges) keeping.judges;
        watched = same_hosts ∙ keeping.watched;
        passed = last-were (watches conditions) told (taken_of conditions logged) moment is.one;
        all = subst (λ (all : List Taken). KeepsAll all new.search) same after.1;
      },
      subst (λ (all : List Taken). HasTaken all new.search) same after.0,
    )

-- A moment was told, and what comes is behind it.
abbrev pub ComesBehind : Watcher → Watcher → Type 0
ComesBehind old new = (conditions : List Condition) (told : Option (ℕ → Logged)) (logged : List Logged)
    (moment : ℕ → Logged) → IsKeeping conditions told logged old
    → IsEarliest (watches conditions) (taken_behind conditions told logged) moment
    → IsKeeping conditions (Some moment) logged new
    × HasTaken (taken_behind conditions (Some moment) logged) new.search

module _ (form : Form) (conditions : List Condition) (input left : Option (List ℕ)) (told : Option (ℕ → Logged))
    (at : List Logged) (old new : Moments) (answer : TraceAnswer)
    (way : IsOnTheWay form conditions input left told at old)
    (knows : is_known new.watcher.search ≡ new.known) (same_log : new.events.log ≡ old.events.log)
    (same_ended : new.ended ≡ old.ended) (same_count : new.count ≡ old.count) where
  follows_on : (moment : ℕ → Logged) → IsKeeping conditions (Some moment) way.logged new.watcher
      × HasTaken (taken_behind conditions (Some moment) way.logged) new.watcher.search
      → IsFollowing form conditions input left (Some moment) way.logged new
  follows_on moment after = record {
    read = rw (same_ended, same_log) way.following.read;
    keeping = after.0;
    taken = after.1;
    known = knows;
    many = way.following.many ∙ sym same_count;
  }

  pub tells_known : old.known ≡ true → ComesBehind old.watcher new.watcher
      → ((moment : ℕ → Logged) → Keeps old.watcher.search moment
      → told_by answer ≡ found_told old.watcher.conditions.now moment)
      → TellsNext form conditions input left told at answer new
  tells_known is comes tells =
      let following = way.following in
      let taken = taken_behind conditions told way.logged in
      let found = known_moment taken old.watcher.search following.taken (following.known ∙ is) in
      let known : IsKnown (watches conditions) taken found.moment =
      subst (λ (w : List HostWatch). IsKnown w taken found.moment) following.keeping.watched found.known in
      let earliest : IsEarliest (watches conditions) taken found.moment =
      subst (λ (all : List Taken). IsEarliest (watches conditions) all found.moment) (append-nil taken) (known [] tt) in
      record {
        logged = way.logged;
        moment = found.moment;
        next = elim (way.when is) [ inl once ↦ AtOnce once known | inr first ↦ AtEvent first known ];
        told_is = tells found.moment found.kept_is
            ∙ ap (λ (cs : List Condition). found_told cs found.moment) following.keeping.by;
        following =
            follows_on found.moment (comes conditions told way.logged found.moment following.keeping earliest);
      }

  ends_found : (known : Bool) (ended : Search) (taken : List Taken) → EndsWith known old.watcher.search ended
      → known ≡ true → HasTaken taken old.watcher.search → KeepsEarliest taken ended
  ends_found true ended taken ends is had = ends taken had
  ends_found false ended taken ends is had = absurd (cc)

  pub tells_last : (ended : Search) (found : Bool) → old.known ≡ false → old.ended ≡ true
      → EndsWith found old.watcher.search ended → found ≡ true
      → ((taken : List Taken) → KeepsAll taken old.watcher.search → KeepsAll taken ended)
      → watched_by ended ≡ watched_by old.watcher.search
      → ComesBehind (record old.watcher { search = ended }) new.watcher
      → ((moment : ℕ → Logged) → Keeps ended moment
      → told_by answer ≡ found_told old.watcher.conditions.now moment)
      → TellsNext form conditions input left told at answer new
  tells_last ended found unknown is_ended ends is all same comes tells =
      let following = way.following in
      let old_keeping = following.keeping in
      let taken = taken_behind conditions told way.logged in
      let last = ends_found found ended taken ends is following.taken in
      let earliest : IsEarliest (watches conditions) taken last.moment =
      subst (λ (w : List HostWatch). IsEarliest w taken last.moment) (same ∙ old_keeping.watched) last.earliest in
      let keeping : IsKeeping conditions told way.logged (record old.watcher { search = ended }) = record {
        by = old_keeping.by;
        hosts = old_keeping.hosts;
        judges = old_keeping.judges;
        watched = same ∙ old_keeping.watched;
        passed = old_keeping.passed;
        all = all taken old_keeping.all;
      } in
      record {
        logged = way.logged;
        moment = last.moment;
        next = AtEnd (rw is_ended at following.read) (none_behind (watches conditions) taken old.watcher.search
            following.taken old_keeping.watched (following.known ∙ unknown)) earliest;
        told_is = tells last.moment last.kept_is
            ∙ ap (λ (cs : List Condition). found_told cs last.moment) old_keeping.by;
        following = follows_on last.moment (comes conditions told way.logged last.moment keeping earliest);
      }
