-- What a watcher knows, with one event of the log more.
use Rattle.std.proofs.lemmas.Grind.{common_steps}
use Rattle.trace_detect.proofs.Words.{◌≡◌, ◌∙◌, ◌+◌, ◌-◌, ◌^◌, ◌<◌, ◌≤◌, ℕ, Bool, true, false, cond, filter}
use Rattle.trace_detect.proofs.Words.{HasRoomAt}
use Rattle.trace_detect.proofs.Words.{List, [], ◌∷◌, ◌++◌, Some, None, length, length-set, length-map}
use Rattle.trace_detect.proofs.Words.{refl, sym, ap, subst, arith, append-nil, option_to_list, option_map, get_or-map}
use Rattle.trace_detect.proofs.Words.{get_or-set_same, get_or-set_other, slice_index_or, inl, inr, bytes_eq, Logged}
use Rattle.trace_detect.proofs.Words.{FollowsIn, Taken, HostWatch, watch_at, MayFollow, HaveDistinctHosts}
use Rattle.trace_detect.proofs.Words.{HasTaken, KeepsAll, KeepsNext, is_known, behind_last, LastWasTaken, Option}
use Rattle.trace_detect.proofs.Words.{IsWatchingBehind}
use Rattle.trace_detect.proofs.Words.{Condition, host_of, rule_of, HaveHosts, holds_at_last}
use Rattle.trace_detect.proofs.Words.{Judged, Watcher, watch_of, watches, texts_at, condition_at, taken_of}
use Rattle.trace_detect.proofs.Words.{taken_from}
use Rattle.trace_detect.proofs.Words.{Knows, AreJudges, JudgesOneAt, IsPlace}
use Rattle.std.proofs.lemmas.List.{get_or_default}
use Rattle.std.proofs.Math.ListN.{get_or-append}
use Rattle.std.proofs.Math.Seq.{get_or-append_seam}
use Rattle.std.proofs.lemmas.Slice.Eq.{bytes_eq-Decides}
use Rattle.std.proofs.lemmas.Bool.Decides.{eqb_tells}
use Rattle.trace_condition.specs.Judging.{HasJudged}
use Rattle.trace_condition.specs.declared.judge.Judge.{Judge}
use Rattle.trace_detect.specs.declared.tally.HostTally.{HostTally}
use Rattle.std.proofs.Common.{suc}
use Rattle.trace_moment.specs.declared.search.Search.{Search}
use Rattle.trace_moment.specs.Keeping.{KeepTaken}
use Rattle.trace_moment.proofs.KeptAll.{KeepAll-searching}
use Rattle.trace_detect.proofs.Taking.{taken_more, clock_taken}
use Rattle.trace_detect.proofs.Hosts.{one_place, found_is_of, none_is_of}
use Rattle.trace_detect.proofs.Knowing.{knows_other, knows_own}

-- One judge more, for one condition more.
pub each_more : (R : Condition → Judged → Type 0) (conditions : List Condition) (judges : List Judged) (n : ℕ)
    (condition : Condition) (judge : Judged) → length judges ≡ n → n < length conditions
    → R (slice_index_or conditions n condition) judge
    → ((p : ℕ) (c : Condition) (j : Judged) → p < n → R (slice_index_or conditions p c) (slice_index_or judges p j))
    → (p : ℕ) (c : Condition) (j : Judged) → p < n + 1
    → R (slice_index_or conditions p c) (slice_index_or (judges ++ judge ∷ []) p j)
each_more R conditions judges n condition judge many within now before p c j below =
    grind (arith, eqb_tells, get_or-append_seam, get_or_default, get_or-append)

-- The host that a search watches at a place is that of the condition there.
pub watched_at : (conditions : List Condition) (p : ℕ) (c : Condition) → p < length conditions
    → (watch_at (watches conditions) p).host ≡ host_of (slice_index_or conditions p c)
watched_at conditions p c within = ap (λ (w : HostWatch). w.host) (get_or-map watch_of conditions p c _ within)

distinct_of : (first : Condition) (others : List Condition) → HaveHosts (first ∷ others)
    → HaveDistinctHosts (watches (first ∷ others))
distinct_of first others hosts p q p_in q_in same =
    let conditions = first ∷ others in
    let many = length-map conditions watch_of in
    let p_within : p < length conditions = omega (arith, many) in
    let q_within : q < length conditions = omega (arith, many) in
    one_place conditions p q first hosts p_within q_within
    (sym (watched_at conditions p first p_within) ∙ same ∙ watched_at conditions q first q_within)

pub watches_distinct : (conditions : List Condition) → HaveHosts conditions → HaveDistinctHosts (watches conditions)
watches_distinct [] hosts p q p_in q_in same = absurd (omega arith)
watches_distinct (first ∷ others) hosts p q p_in q_in same = distinct_of first others hosts p q p_in q_in same

pub none_taken : (conditions : List Condition) → taken_of conditions [] ≡ []
unfolding taken_from
none_taken conditions = refl

is_other : (one : Logged) (condition : Condition) → (host_of condition ≡ one.event.host → ⊥)
    → bytes_eq one.event.host (host_of condition) ≡ false
is_other one condition not_same = grind (arith, common_steps, bytes_eq-Decides)

-- An event of a host without a condition is passed over.
pub taken_over : (conditions : List Condition) (before : List Logged) (one : Logged)
    → condition_at one.event.host conditions ≡ None
    → taken_of conditions before ≡ taken_of conditions (before ++ one ∷ [])
taken_over conditions before one none = sym (taken_more conditions [] before one
    ∙ ap (λ o. taken_of conditions before ++ option_to_list (option_map (λ c. record {
      logged = one;
      holds = holds_at_last (rule_of c) (texts_at one.event.host (before ++ one ∷ []));
    }) o)) none ∙ append-nil (taken_of conditions before))

pub passes_over : (conditions : List Condition) (told : Option (ℕ → Logged)) (before : List Logged) (one : Logged)
    (watcher : Watcher) → IsWatchingBehind conditions told before watcher
    → condition_at one.event.host conditions ≡ None
    → IsWatchingBehind conditions told (before ++ one ∷ []) watcher
passes_over conditions told before one watcher watching none = record {
  by = watching.by;
  hosts = watching.hosts;
  judges = record {
    as_many = watching.judges.as_many;
    each = λ p c j within. knows_other conditions before one (slice_index_or conditions p c)
        (slice_index_or watcher.judges.items p j) (is_other one (slice_index_or conditions p c)
        (none_is_of one.event.host conditions p c none within)) (watching.judges.each p c j within);
  };
  watched = watching.watched;
  passed = subst (λ taken. LastWasTaken (watches conditions) told taken) (taken_over conditions before one none)
      watching.passed;
  taken = subst (λ taken. HasTaken (behind_last (watches conditions) told taken) watcher.search)
      (taken_over conditions before one none) watching.taken;
}

-- While no moment is known each state is kept that can be in one.
pub keeps_all : (taken : List Taken) (search : Search) → HasTaken taken search → is_known search ≡ false
    → KeepsAll taken search
keeps_all taken search had is = KeepAll-searching taken search.queues.items search.floors.items
    (subst (λ (known : Bool). KeepTaken taken search.queues.items search.floors.items known) is had)

pub keeps_over : (conditions : List Condition) (told : Option (ℕ → Logged)) (before : List Logged) (one : Logged)
    (watcher : Watcher) → IsWatchingBehind conditions told before watcher
    → condition_at one.event.host conditions ≡ None → is_known watcher.search ≡ false
    → KeepsNext conditions told before one watcher.search
keeps_over conditions told before one watcher watching none unknown =
    keeps_all (behind_last (watches conditions) told (taken_of conditions (before ++ one ∷ []))) watcher.search
    (passes_over conditions told before one watcher watching none).taken unknown

pub judges_more : (conditions : List Condition) (before : List Logged) (one : Logged) (place : ℕ)
    (judges judges' : List Judged) (holds : Bool) → HaveHosts conditions → IsPlace one.event.host conditions place
    → AreJudges conditions before judges
    → JudgesOneAt place judges one.event.text holds judges' → AreJudges conditions (before ++ one ∷ []) judges'
judges_more conditions before one place judges judges' holds hosts is_place are next = rw next.set (record {
  as_many = omega (arith, are.as_many, length-set judges place next.judge);
  each = λ p c j within. elim (eqb_tells p place) [
    | inl here ↦ rw (here.1, get_or-set_same judges place next.judge j (omega (arith, is_place.within, are.as_many)))
        (knows_own conditions before one (slice_index_or conditions place c)
        (slice_index_or judges place j) next.judge holds (is_place.first c)
        (found_is_of one.event.host conditions (slice_index_or conditions place c) (is_place.first c))
        (are.each place c j is_place.within) (next.next j))
    | inr there ↦ rw (get_or-set_other judges place p next.judge j there.1)
        (knows_other conditions before one (slice_index_or conditions p c) (slice_index_or judges p j)
        (is_other one (slice_index_or conditions p c)
        (λ same. there.1 (one_place conditions p place c hosts within is_place.within
        (same ∙ sym (found_is_of one.event.host conditions (slice_index_or conditions place c) (is_place.first c))))))
        (are.each p c j within))
  ];
})

pub clock_same : (conditions : List Condition) (before : List Logged) (one : Logged) (condition : Condition)
    → condition_at one.event.host conditions ≡ Some condition → FollowsIn before one.event
    → MayFollow (taken_of conditions before) one.event
clock_same conditions before one condition found follow = grind (arith, common_steps, clock_taken)

-- A judge before the first event.
pub knows_none : (conditions : List Condition) (condition : Condition) (judge : Judge) (tally : HostTally)
    → HasJudged (rule_of condition) [] judge → tally.events ≡ 0 → tally.matched ≡ 0
    → Knows conditions [] condition (record { judge = judge; tally = tally })
knows_none conditions condition judge tally judged events matched = grind (arith, common_steps, none_taken)

few_pass : {X : Type 0} (test : X → Bool) (xs : List X) → length (filter test xs) ≤ length xs
few_pass test [] = omega arith
few_pass test (x ∷ xs) = of (test x) (few_pass test xs)
  where
    of : (passes : Bool) → length (filter test xs) ≤ length xs
        → length (cond passes (x ∷ filter test xs) (filter test xs)) ≤ suc (length xs)
    of true few = omega arith
    of false few = omega arith

-- A judge has counted no more events than there are.
pub room_at : (conditions : List Condition) (before : List Logged) (judges : List Judged) (place : ℕ) (c : Condition)
    → AreJudges conditions before judges → place < length conditions → length before < 2 ^ 64 - 1
    → HasRoomAt place judges
room_at conditions before judges place c are within few judge =
    let known = (are.each place c judge within).events in
    omega (arith, known, few_pass (λ one. bytes_eq one.event.host (host_of (slice_index_or conditions place c))) before)

pub room_of : (conditions : List Condition) (before : List Logged) (judges : List Judged) (place : ℕ)
    → AreJudges conditions before judges → place < length conditions → length before < 2 ^ 64 - 1
    → HasRoomAt place judges
room_of [] before judges place are within few judge = absurd (omega arith)
room_of (first ∷ others) before judges place are within few judge =
    room_at (first ∷ others) before judges place first are within few judge
