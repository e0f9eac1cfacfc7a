-- First runs that stand: whatever follows, they are the least that overlap.
use Rattle.std.proofs.Common.{◌≡◌, ◌==◌, ◌∙◌, sym, ap, subst, ℕ, ◌<◌, List, [], ◌∷◌, ◌++◌}
use Rattle.std.proofs.Common.{Bool, length, true, false, refl, ⊎_elim, append-nil, append_assoc}
use Rattle.std.proofs.Common.{Option, Some, None}
use Rattle.std.specs.Prelude.{if◌then◌else◌, IfSome}
use Rattle.std.proofs.lemmas.Bool.{eqb-true}
use Rattle.trace_log.specs.Log.{Logged}
use Rattle.trace_moment.specs.Moment.{Follow, HostWatch, MayFollow, Taken}
use Rattle.trace_moment.specs.Moment.{watch_at}
use Rattle.trace_moment.proofs.Clocks.{ComesNext, comes_next, LastKnowsAll-push}
use Rattle.trace_definitely.specs.Logs.{LogRun}
use Rattle.trace_definitely.specs.Waiting.{with_event, with_host}
use Rattle.trace_definitely.proofs.Waits.{grows}
use Rattle.trace_runs.specs.Runs.{AreKnown, AreStillLeast, IsSameLater}
use Rattle.trace_runs.proofs.Rising.{OwnRise-push, waits_other, waits_same}
use Rattle.trace_runs.proofs.Meeting.{AreStanding, Meets, find_host, first_with, least_now, meets_begin, meets_more}
use Rattle.trace_runs.proofs.Meeting.{meets_own, rest_with, run_with, same_later}

-- They stand when one event more has come.
record StandLater (watched : List HostWatch) (taken : List Taken) (first : ℕ → LogRun) : Type 0 where
  pub later : ℕ → LogRun
  pub same : (p : ℕ) → p < length watched → IsSameLater (first p) (later p)
  pub stand : AreStanding watched taken later

stays_same : (run : LogRun) → IsSameLater run run
stays_same run = record { begin = refl; over = by_over run.over }
  where
    by_over : (over : Option Logged) → IfSome over (λ it. over ≡ Some it)
    by_over None = tt
    by_over (Some over) = refl

module _ (watched : List HostWatch) (taken : List Taken) (first : ℕ → LogRun) (stand : AreStanding watched taken first)
    (next : Taken) (follow : MayFollow taken next.logged.event) where
  abbrev comes : ComesNext taken next
  comes = comes_next taken next follow

  stand_other : ((p : ℕ) → p < length watched → next.logged.event.host ≡ (watch_at watched p).host → ⊥)
      → StandLater watched (taken ++ next ∷ []) first
  stand_other none = record {
    later = first;
    same = λ p host. stays_same (first p);
    stand = record {
      distinct = stand.distinct;
      rise = OwnRise-push watched taken next stand.rise stand.last follow;
      last = LastKnowsAll-push taken next comes stand.last;
      others = stand.others;
      waits = waits_other watched taken next (λ p. first p ∷ stand.others p) stand.waits none;
      meet = λ p q p_host q_host isnt.
          meets_more watched taken next comes q (first p) (first q) (stand.meet p q p_host q_host isnt);
    };
  }

  module _ (at : ℕ) (at_host : at < length watched) (host : next.logged.event.host ≡ (watch_at watched at).host) where
    later_by : (p : ℕ) → Bool → LogRun
    later_by p true = run_with (first p).over (first p) next
    later_by p false = first p

    later : ℕ → LogRun
    later p = later_by p (p == at)

    rest_by : (p : ℕ) → Bool → List LogRun
    rest_by p true = rest_with (first p).over (first p) (stand.others p) next
    rest_by p false = stand.others p

    abbrev all_first : ℕ → List LogRun
    all_first p = first p ∷ stand.others p

    same_by : (p : ℕ) (is : Bool) → IsSameLater (first p) (later_by p is)
    unfolding later_by
    same_by p true = same_later (first p).over (first p) next refl
    same_by p false = stays_same (first p)

    runs_by : (p : ℕ) (is : Bool) → (p == at) ≡ is
        → (later_by p is ∷ rest_by p is) ≡ with_host all_first at (with_event (all_first at) next) p
    unfolding later_by rest_by
    runs_by p true is =
        let same : p ≡ at = eqb-true p at is in
        sym (first_with (first p).over (first p) (stand.others p) next)
        ∙ ap (λ x. with_event (all_first x) next) same
        ∙ sym (ap (λ (b : Bool). if b then with_event (all_first at) next else all_first p) is)
    runs_by p false is = sym (ap (λ (b : Bool). if b then with_event (all_first at) next else all_first p) is)

    meet_by : (p q : ℕ) → p < length watched → q < length watched → (p ≡ q → ⊥) → (is : Bool) → (q == at) ≡ is
        → Meets watched (taken ++ next ∷ []) q (later p) (later_by q is)
    unfolding later later_by
    meet_by p q p_host q_host isnt true is =
        meets_begin watched taken next comes q (first p) (later_by p (p == at)) (run_with (first q).over (first q) next)
        (same_by p (p == at)).begin
        (meets_own watched taken next comes q (first p) (first q)
        (host ∙ ap (λ x. (watch_at watched x).host) (sym (eqb-true q at is)))
        (stand.meet p q p_host q_host isnt))
    meet_by p q p_host q_host isnt false is =
        meets_begin watched taken next comes q (first p) (later_by p (p == at)) (first q)
        (same_by p (p == at)).begin
        (meets_more watched taken next comes q (first p) (first q) (stand.meet p q p_host q_host isnt))

    stand_at : StandLater watched (taken ++ next ∷ []) first
    unfolding later
    stand_at = record {
      later = later;
      same = λ p host. same_by p (p == at);
      stand = record {
        distinct = stand.distinct;
        rise = OwnRise-push watched taken next stand.rise stand.last follow;
        last = LastKnowsAll-push taken next comes stand.last;
        others = λ p. rest_by p (p == at);
        waits = waits_same watched (taken ++ next ∷ []) (with_host all_first at (with_event (all_first at) next))
            (λ p. later p ∷ rest_by p (p == at))
            (grows watched taken all_first stand.waits next at stand.distinct at_host host)
            (λ p within. runs_by p (p == at) refl);
        meet = λ p q p_host q_host isnt. meet_by p q p_host q_host isnt (q == at) refl;
      };
    }

  stand_next : StandLater watched (taken ++ next ∷ []) first
  stand_next =
      ⊎_elim
      (λ (found : (p : ℕ) × (p < length watched) × (next.logged.event.host ≡ (watch_at watched p).host)).
      stand_at found.0 found.1 found.2)
      (λ (none : (p : ℕ) → p < length watched → next.logged.event.host ≡ (watch_at watched p).host → ⊥).
      stand_other none)
      (find_host (length watched) watched next.logged.event.host)

later_of : (run now later : LogRun) → IsSameLater run now → IsSameLater now later → IsSameLater run later
later_of run now later before after = record {
  begin = after.begin ∙ before.begin;
  over = by_over run.over before.over;
}
  where
    by_over : (over : Option Logged) → IfSome over (λ it. now.over ≡ Some it) → IfSome over (λ it. later.over ≡ Some it)
    by_over None is = tt
    by_over (Some over) is = subst (λ end. IfSome end (λ it. later.over ≡ Some it)) is after.over

stay_on : (watched : List HostWatch) (taken more : List Taken) (first : ℕ → LogRun) → AreStanding watched taken first
    → Follow taken more → AreStillLeast watched (taken ++ more) first
stay_on watched taken [] first stand follow =
    subst (λ log. AreStillLeast watched log first) (sym (append-nil taken)) (record {
      later = first;
      same = λ p host. stays_same (first p);
      are = least_now watched taken first stand;
    })
stay_on watched taken (next ∷ more) first stand follow =
    let step = stand_next watched taken first stand next follow.0 in
    let rest = stay_on watched (taken ++ next ∷ []) more step.later step.stand follow.1 in
    subst (λ log. AreStillLeast watched log first) (append_assoc taken (next ∷ []) more) (record {
      later = rest.later;
      same = λ p host. later_of (first p) (step.later p) (rest.later p) (step.same p host) (rest.same p host);
      are = rest.are;
    })

-- So they are known.
pub known_standing : (watched : List HostWatch) (taken : List Taken) (first : ℕ → LogRun)
    → AreStanding watched taken first → AreKnown watched taken first
known_standing watched taken first stand = record {
  now = least_now watched taken first stand;
  stay = λ more follow. stay_on watched taken more first stand follow;
}
