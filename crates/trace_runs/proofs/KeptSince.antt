-- Runs that have been known since some events were taken.
use Rattle.std.proofs.Common.{◌≡◌, ◌∙◌, sym, ap, subst, List, [], ◌∷◌, ◌++◌}
use Rattle.std.proofs.Common.{Bool, true, false}
use Rattle.std.proofs.Common.{append-nil, append_assoc, MatchBool}
use Rattle.std.proofs.lemmas.Bool.{false≢true}
use Rattle.trace_moment.specs.Moment.{Follow, MayFollow, Taken}
use Rattle.trace_runs.specs.Runs.{HasNoRuns}
use Rattle.trace_runs.specs.Kept.{HaveFirsts, KeptRuns}
use Rattle.trace_runs.specs.Kept.{OneHasNone}
use Rattle.trace_runs.specs.Kept.{watched_in}
use Rattle.trace_runs.specs.Keeping.{KeepLeast, KeepNext, KeepSince, KeepTaken}
use Rattle.trace_runs.proofs.KeptEnds.{end_known}

-- More events come after some.
follow_push : (before more : List Taken) (next : Taken) → Follow before more
    → MayFollow (before ++ more) next.logged.event → Follow before (more ++ next ∷ [])
follow_push before [] next follow may =
    (subst (λ log. MayFollow log next.logged.event) (append-nil before) may, tt)
follow_push before (one ∷ more) next follow may = (
  follow.0,
  follow_push (before ++ one ∷ []) more next follow.1
      (subst (λ log. MayFollow log next.logged.event) (sym (append_assoc before (one ∷ []) more)) may),
)

pub since_next : (taken : List Taken) (kept : List KeptRuns) (next : Taken) → MayFollow taken next.logged.event
    → KeepSince taken kept → KeepSince (taken ++ next ∷ []) kept
since_next taken kept next may has = record {
  before = has.before;
  more = has.more ++ next ∷ [];
  whole = ap (λ log. log ++ next ∷ []) has.whole ∙ append_assoc has.before has.more (next ∷ []);
  follow = follow_push has.before has.more next has.follow
      (subst (λ log. MayFollow log next.logged.event) has.whole may);
  known = has.known;
}

pub next_taken : (taken : List Taken) (kept : List KeptRuns) (known : Bool) → KeepNext taken kept known
    → KeepTaken taken kept known
next_taken taken kept true has = record {
  before = taken;
  more = [];
  whole = sym (append-nil taken);
  follow = tt;
  known = has;
}
next_taken taken kept false has = has

-- The log has ended.
pub ended_known : (taken : List Taken) (kept : List KeptRuns) (known : Bool) → known ≡ true
    → KeepTaken taken kept known
    → MatchBool known (MatchBool known (KeepSince taken kept) (KeepLeast taken kept))
    (HasNoRuns (watched_in kept) taken)
ended_known taken kept true is has = has
ended_known taken kept false is has = absurd (false≢true is)

pub ended_searching : (taken : List Taken) (kept : List KeptRuns) (known all : Bool) → known ≡ false
    → MatchBool all (HaveFirsts kept) (OneHasNone kept) → KeepTaken taken kept known
    → MatchBool all (MatchBool known (KeepSince taken kept) (KeepLeast taken kept))
    (HasNoRuns (watched_in kept) taken)
ended_searching taken kept true all isnt firsts has = absurd (false≢true (sym isnt))
ended_searching taken kept false all isnt firsts has = end_known taken kept has.keeps has.settled all firsts
