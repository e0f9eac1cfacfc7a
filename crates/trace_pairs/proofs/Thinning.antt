-- What can be left out changes no moment, and nothing that may follow.
use Rattle.std.proofs.lemmas.Grind.{common_steps}
use Rattle.trace_pairs.proofs.Words.{◌≡◌, ◌∙◌, ℕ, ◌<◌, ◌≤◌, true, cond, List, [], ◌∷◌, ◌++◌, Ok, refl, sym, ap, subst}
use Rattle.trace_pairs.proofs.Words.{arith, inl, inr, ◌⊎◌, append_assoc, append-nil, map-append, Contains}
use Rattle.trace_pairs.proofs.Words.{Contains-append_left, Contains-append_right, Contains-append_cases}
use Rattle.trace_pairs.proofs.Words.{Contains-push, Contains-push_cases, bytes_eq, clock_after-push, Member, number_of}
use Rattle.trace_pairs.proofs.Words.{Event, Logged, last_clock, follows, Lasting, While, At, HostWatch, Taken, watch_at}
use Rattle.trace_pairs.proofs.Words.{own, IsLater, IsOver, IsMoment, IsEarliest, IsKnown, events_of, MayFollow, Follow}
use Rattle.trace_pairs.proofs.Words.{LastKnowsAll, HasNoMoment, NoneIsKnown, comes_next, LastKnowsAll-push, Text}
use Rattle.trace_pairs.proofs.Words.{EndsBy, Thins}

module _ (kept full : List Taken) (thins : Thins kept full) where
  pub may_kept : (event : Event) → MayFollow full event → MayFollow kept event
  may_kept event may = subst (λ (clock : List Member). follows event.host clock event.clock ≡ Ok tt)
      (sym (thins.last event.host)) may

  may_full : (event : Event) → MayFollow kept event → MayFollow full event
  may_full event may = subst (λ (clock : List Member). follows event.host clock event.clock ≡ Ok tt)
      (thins.last event.host) may

  over_kept : (lasting : Lasting) (logged : Logged) (f : Event)
      → Contains kept (record { logged = logged; holds = true }) → IsOver lasting full logged.event f
      → IsOver lasting kept logged.event f
  over_kept At logged f held over = over
  over_kept While logged f held (later, is, before) =
      let by = thins.ends logged held later is in
      let host = by.later.host ∙ sym is.host in
      (by.ending, by.later, omega (arith, by.by, before, ap (λ h. number_of h f.clock) host))

  over_full : (lasting : Lasting) (e f : Event) → IsOver lasting kept e f → IsOver lasting full e f
  over_full At e f over = over
  over_full While e f (later, is, before) =
      (later, record { was_taken = thins.among later is.was_taken; host = is.host; after = is.after }, before)

  module _ (watched : List HostWatch) where
    moment_full : (moment : ℕ → Logged) → IsMoment watched kept moment → IsMoment watched full moment
    moment_full moment is = record {
      held = λ p within. thins.among (record { logged = moment p; holds = true }) (is.held p within);
      host = is.host;
      together = λ p q p_in q_in apart over. is.together p q p_in q_in apart
          (over_kept (watch_at watched p).lasting (moment p) (moment q).event (is.held p p_in) over);
    }

    moment_kept : (moment : ℕ → Logged) → IsMoment watched full moment → IsMoment watched kept moment
    moment_kept moment is = record {
      held = λ p within. thins.held (moment p) (is.held p within);
      host = is.host;
      together = λ p q p_in q_in apart over. is.together p q p_in q_in apart
          (over_full (watch_at watched p).lasting (moment p).event (moment q).event over);
    }

    pub earliest_full : (moment : ℕ → Logged) → IsEarliest watched kept moment → IsEarliest watched full moment
    earliest_full moment is = record {
      one = moment_full moment is.one;
      below = λ other other_is. is.below other (moment_kept other other_is);
    }

    earliest_kept : (moment : ℕ → Logged) → IsEarliest watched full moment → IsEarliest watched kept moment
    earliest_kept moment is = record {
      one = moment_kept moment is.one;
      below = λ other other_is. is.below other (moment_full other other_is);
    }

    pub none_full : HasNoMoment watched kept → HasNoMoment watched full
    none_full none moment is = none moment (moment_kept moment is)

pub only_one : (one two : Taken) → Contains (one ∷ []) two → two ≡ one
only_one one two is = grind arith

-- No event of what was taken before is later than the next one.
pub too_late_for : (full : List Taken) (next : Taken) → LastKnowsAll full → MayFollow full next.logged.event
    → (logged : Logged) (other : Taken) → IsLater (full ++ next ∷ []) logged.event other
    → record { logged = logged; holds = true } ≡ next → ⊥
too_late_for full next knows_all may logged other later is =
    let same : logged ≡ next.logged = ap (λ (t : Taken). t.logged) is in
    elim (Contains-append_cases full (next ∷ []) other later.was_taken) [
      | inl old ↦
          let before = (comes_next full next may).before knows_all other old
          (later.host ∙ ap (λ (l : Logged). l.event.host) same) in
          omega (arith, before.own_rises, later.after, ap (λ (l : Logged). own l.event) same)
      | inr new ↦ omega (
        arith,
        later.after,
        ap (λ (l : Logged). own l.event) same,
        ap (λ (t : Taken). own t.logged.event) (only_one next other new),
      )
    ]

ends_push : (kept full : List Taken) (next : Taken) → Thins kept full → MayFollow full next.logged.event
    → (logged : Logged) → Contains (kept ++ next ∷ []) (record { logged = logged; holds = true })
    → (other : Taken) → IsLater (full ++ next ∷ []) logged.event other
    → EndsBy (kept ++ next ∷ []) logged.event other
ends_push kept full next thins may logged held other later =
    elim (Contains-append_cases full (next ∷ []) other later.was_taken) [
      | inr new ↦ record {
        ending = other;
        later = record {
          was_taken = Contains-append_right kept (next ∷ []) other new;
          host = later.host;
          after = later.after;
        };
        by = omega arith;
      }
      | inl old ↦ elim (Contains-append_cases kept (next ∷ []) (record { logged = logged; holds = true }) held) [
        | inl was ↦
            let by = thins.ends logged was other
            (record { was_taken = old; host = later.host; after = later.after }) in
            record {
              ending = by.ending;
              later = record {
                was_taken = Contains-append_left kept (next ∷ []) by.ending by.later.was_taken;
                host = by.later.host;
                after = by.later.after;
              };
              by = by.by;
            }
        | inr now ↦ absurd (too_late_for full next thins.knows_all may logged other later
            (only_one next (record { logged = logged; holds = true }) now))
      ]
    ]

-- What comes next can't be left out.
pub thins_push : (kept full : List Taken) (next : Taken) → Thins kept full → MayFollow full next.logged.event
    → Thins (kept ++ next ∷ []) (full ++ next ∷ [])
thins_push kept full next thins may = record {
  among = λ one is. elim (Contains-append_cases kept (next ∷ []) one is) [
    | inl was ↦ Contains-append_left full (next ∷ []) one (thins.among one was)
    | inr now ↦ Contains-append_right full (next ∷ []) one now
  ];
  held = λ logged is. elim (Contains-append_cases full (next ∷ []) (record { logged = logged; holds = true }) is) [
    | inl was ↦ Contains-append_left kept (next ∷ []) (record { logged = logged; holds = true })
        (thins.held logged was)
    | inr now ↦ Contains-append_right kept (next ∷ []) (record { logged = logged; holds = true }) now
  ];
  ends = ends_push kept full next thins may;
  last = λ host. last_push kept host ∙ ap (λ (clock : List Member).
      cond (bytes_eq next.logged.event.host host) next.logged.event.clock clock) (thins.last host)
      ∙ sym (last_push full host);
  knows_all = LastKnowsAll-push full next (comes_next full next may) thins.knows_all;
}
  where
    last_push : (taken : List Taken) (host : Text) → last_clock host (events_of (taken ++ next ∷ []))
        ≡ cond (bytes_eq next.logged.event.host host) next.logged.event.clock (last_clock host (events_of taken))
    last_push taken host = grind (arith, map-append, clock_after-push)

pub follow_full : (kept full more : List Taken) → Thins kept full → Follow kept more → Follow full more
follow_full kept full [] thins follow = tt
follow_full kept full (next ∷ more) thins follow =
    let may = may_full kept full thins next.logged.event follow.0 in
    (may, follow_full (kept ++ next ∷ []) (full ++ next ∷ []) more (thins_push kept full next thins may) follow.1)

follow_kept : (kept full more : List Taken) → Thins kept full → Follow full more → Follow kept more
follow_kept kept full [] thins follow = tt
follow_kept kept full (next ∷ more) thins follow = (
  may_kept kept full thins next.logged.event follow.0,
  follow_kept (kept ++ next ∷ []) (full ++ next ∷ []) more (thins_push kept full next thins follow.0) follow.1,
)

thins_more : (kept full more : List Taken) → Thins kept full → Follow full more → Thins (kept ++ more) (full ++ more)
thins_more kept full [] thins follow = rw (append-nil kept, append-nil full) thins
thins_more kept full (next ∷ more) thins follow =
    subst (λ (l : List Taken). Thins l (full ++ next ∷ more)) (append_assoc kept (next ∷ []) more)
    (subst (λ (l : List Taken). Thins ((kept ++ next ∷ []) ++ more) l) (append_assoc full (next ∷ []) more)
    (thins_more (kept ++ next ∷ []) (full ++ next ∷ []) more (thins_push kept full next thins follow.0) follow.1))

module _ (watched : List HostWatch) (kept full : List Taken) (thins : Thins kept full) where
  pub known_full : (moment : ℕ → Logged) → IsKnown watched kept moment → IsKnown watched full moment
  known_full moment is more follow = earliest_full (kept ++ more) (full ++ more)
      (thins_more kept full more thins follow) watched moment (is more (follow_kept kept full more thins follow))

  pub unknown_full : NoneIsKnown watched kept → NoneIsKnown watched full
  unknown_full none moment is = none moment (λ more follow.
      let back = follow_full kept full more thins follow in
      earliest_kept (kept ++ more) (full ++ more) (thins_more kept full more thins back) watched moment (is more back))
