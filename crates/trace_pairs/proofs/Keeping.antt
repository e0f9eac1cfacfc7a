-- What is kept of a host's events, with one event more.
use Rattle.std.proofs.lemmas.Grind.{common_steps}
use Rattle.trace_pairs.proofs.Words.{◌≡◌, ◌∙◌, ℕ, ◌<◌, ◌≤◌, Bool, true, false, cond, Option, Some, None, List, [], ◌∷◌}
use Rattle.trace_pairs.proofs.Words.{◌++◌, Ok, length, take, refl, sym, ap, subst, arith, inl, inr, append-nil}
use Rattle.trace_pairs.proofs.Words.{map-append, Contains, Contains-append_left, Contains-append_right}
use Rattle.trace_pairs.proofs.Words.{Contains-append_cases, option_to_list, slice_index_or, ◌||◌, get_or_append_left}
use Rattle.trace_pairs.proofs.Words.{bytes_eq, bytes_eq-Decides, clock_after-push, Member, number_of, Event, Logged}
use Rattle.trace_pairs.proofs.Words.{last_clock, follows, Taken, own, IsLater, events_of, MayFollow, LastKnowsAll}
use Rattle.trace_pairs.proofs.Words.{comes_next, LastKnowsAll-push, may_follow, KnowsNoMore, Text, EndsBy, Thins}
use Rattle.trace_pairs.proofs.Words.{AreInTurn, false≢true}
use Rattle.std.proofs.lemmas.List.{take-append-le}
use Rattle.std.proofs.Math.Seq.{get_or-append_seam, take-append_seam}
use Rattle.std.proofs.lemmas.Bool.Decides.{eqb_tells}
use Rattle.trace_pairs.specs.Kept.{KeptEvents, all_kept, with_after, with_next, HasEnd, KeepsEvents, no_events}
use Rattle.trace_pairs.proofs.Thinning.{thins_push, may_kept, too_late_for, only_one}

-- Each may follow those before it, and so may one more.
pub in_turn_push : (taken : List Taken) (next : Taken) → AreInTurn taken → MayFollow taken next.logged.event
    → AreInTurn (taken ++ next ∷ [])
in_turn_push taken next turn may p one within = elim (eqb_tells p (length taken)) [
  | inl here ↦ rw (
    here.1,
    take-append-le (length taken) taken (next ∷ []) (omega arith),
    get_or-append_seam taken next [] one,
  ) (grind (arith, common_steps, may))
  | inr there ↦ rw (
    take-append-le p taken (next ∷ []) (grind (arith, common_steps)),
    get_or_append_left taken (next ∷ []) one p (grind (arith, common_steps)),
  )
      (turn p one (grind (arith, common_steps)))
]

in_turn_less : (taken : List Taken) (last : Taken) → AreInTurn (taken ++ last ∷ []) → AreInTurn taken
in_turn_less taken last turn p one within =
    rw (
      sym (take-append-le p taken (last ∷ []) (omega (arith, within))),
      sym (get_or_append_left taken (last ∷ []) one p within),
    )
    (turn p one (grind (arith, common_steps, within)))

in_turn_last : (taken : List Taken) (last : Taken) → AreInTurn (taken ++ last ∷ []) → MayFollow taken last.logged.event
in_turn_last taken last turn = rw (take-append_seam taken (last ∷ []), get_or-append_seam taken last [] last) at
    (turn (length taken) last (grind (arith, common_steps)))

rises_after : (taken : List Taken) (next : Taken) → MayFollow taken next.logged.event
    → number_of next.logged.event.host (last_clock next.logged.event.host (events_of taken)) < own next.logged.event
rises_after taken next may = grind arith

last_push : (taken : List Taken) (next : Taken) (host : Text) → last_clock host (events_of (taken ++ next ∷ []))
    ≡ cond (bytes_eq next.logged.event.host host) next.logged.event.clock (last_clock host (events_of taken))
last_push taken next host = grind (arith, map-append, clock_after-push)

module _ (host : Text) (full : List Taken) (next : Taken) (knows_all : LastKnowsAll full)
    (named : next.logged.event.host ≡ host) (may : MayFollow full next.logged.event) where
  newest_is : (one : Taken) → Some next ≡ Some one
      → last_clock host (events_of (full ++ next ∷ [])) ≡ one.logged.event.clock
  newest_is one is =
      let same : next ≡ one = grind arith in
      ap (λ h. last_clock h (events_of (full ++ next ∷ []))) (sym named) ∙ (comes_next full next may).itself
      ∙ ap (λ (t : Taken). t.logged.event.clock) same

  -- The end of a state stays it.
  end_more : (kept : List Taken) (event : Event) → ((one : Taken) → Contains kept one → Contains full one)
      → HasEnd kept full event → HasEnd kept (full ++ next ∷ []) event
  end_more kept event among end = record {
    ending = end.ending;
    later = end.later;
    first = λ other later. elim (Contains-append_cases full (next ∷ []) other later.was_taken) [
      | inl old ↦ end.first other (record { was_taken = old; host = later.host; after = later.after })
      | inr new ↦
          let same : other ≡ next = only_one next other new in
          let before = (comes_next full next may).before knows_all end.ending (among end.ending end.later.was_taken)
          (end.later.host ∙ sym later.host ∙ ap (λ (t : Taken). t.logged.event.host) same) in
          omega (arith, before.own_rises, ap (λ (t : Taken). own t.logged.event) same)
    ];
  }

  end_wider : (kept more : List Taken) (all : List Taken) (event : Event) → HasEnd kept all event
      → HasEnd (kept ++ more) all event
  end_wider kept more all event end = record {
    ending = end.ending;
    later = record {
      was_taken = Contains-append_left kept more end.ending end.later.was_taken;
      host = end.later.host;
      after = end.later.after;
    };
    first = end.first;
  }

  -- The next event ends the state of the last one.
  ends_last : (kept : List Taken) (last : Taken) → Contains full last → last.logged.event.host ≡ host
      → last_clock host (events_of full) ≡ last.logged.event.clock
      → HasEnd (kept ++ next ∷ []) (full ++ next ∷ []) last.logged.event
  ends_last kept last in_full last_named newest = record {
    ending = next;
    later = record {
      was_taken = Contains-append_right kept (next ∷ []) next (0, omega arith, refl);
      host = named ∙ sym last_named;
      after = ((comes_next full next may).before knows_all last in_full (last_named ∙ sym named)).own_rises;
    };
    first = λ other later. elim (Contains-append_cases full (next ∷ []) other later.was_taken) [
      | inl old ↦
          let known = knows_all other old host in
          let other_named : other.logged.event.host ≡ host = later.host ∙ last_named in
          absurd (omega (
            arith,
            later.after,
            known,
            ap (λ h. number_of h other.logged.event.clock) other_named,
            ap (λ h. number_of h last.logged.event.clock) last_named,
            ap (λ h. number_of host (last_clock h (events_of full))) other_named,
            ap (number_of host) newest,
          ))
      | inr new ↦ omega (arith, ap (λ (t : Taken). own t.logged.event) (only_one next other new))
    ];
  }

  module _ (waiting : List Taken) (last : Taken) (thins : Thins (waiting ++ last ∷ []) full)
      (of_host : (one : Taken) → Contains full one → one.logged.event.host ≡ host) where
    last_in_full : Contains full last
    last_in_full = thins.among last (Contains-append_right waiting (last ∷ []) last (0, omega arith, refl))

    waiting_in_full : (one : Taken) → Contains waiting one → Contains full one
    waiting_in_full one is = thins.among one (Contains-append_left waiting (last ∷ []) one is)

    -- The last event is left out, where nothing holds at it and right before it.
    module _ (fails : last.holds ≡ false) (ends : (logged : Logged) → Contains waiting
        (record { logged = logged; holds = true }) → HasEnd waiting full logged.event) where
      not_last : (logged : Logged) → Contains (last ∷ []) (record { logged = logged; holds = true }) → ⊥
      not_last logged is = false≢true (sym fails ∙ sym (ap (λ (t : Taken). t.holds)
          (only_one last (record { logged = logged; holds = true }) is)))

      clock_without : (other : Text) → last_clock other (events_of (waiting ++ next ∷ []))
          ≡ last_clock other (events_of (full ++ next ∷ []))
      clock_without other = last_push waiting next other
          ∙ by_host (bytes_eq next.logged.event.host other) refl
          ∙ sym (last_push full next other)
        where
          same_name : next.logged.event.host ≡ last.logged.event.host
          same_name = named ∙ sym (of_host last last_in_full)

          by_host : (is : Bool) → bytes_eq next.logged.event.host other ≡ is
              → cond (bytes_eq next.logged.event.host other) next.logged.event.clock
              (last_clock other (events_of waiting))
              ≡ cond (bytes_eq next.logged.event.host other) next.logged.event.clock (last_clock other (events_of full))
          by_host true is = rw is refl
          by_host false is = rw is (
              sym (ap (λ b. cond b last.logged.event.clock (last_clock other (events_of waiting)))
              (ap (λ h. bytes_eq h other) (sym same_name) ∙ is))
              ∙ sym (last_push waiting last other) ∙ thins.last other
              )

      thins_without : Thins (waiting ++ next ∷ []) (full ++ next ∷ [])
      thins_without = record {
        among = λ one is. elim (Contains-append_cases waiting (next ∷ []) one is) [
          | inl was ↦ Contains-append_left full (next ∷ []) one (waiting_in_full one was)
          | inr now ↦ Contains-append_right full (next ∷ []) one now
        ];
        held = λ logged is.
            elim (Contains-append_cases full (next ∷ []) (record { logged = logged; holds = true }) is) [
              | inl was ↦ elim (Contains-append_cases waiting (last ∷ []) (record { logged = logged; holds = true })
                  (thins.held logged was)) [
                    | inl there ↦ Contains-append_left waiting (next ∷ []) (record { logged = logged; holds = true })
                        there
                    | inr here ↦ absurd (not_last logged here)
                  ]
              | inr now ↦ Contains-append_right waiting (next ∷ []) (record { logged = logged; holds = true }) now
            ];
        ends = λ logged is other later.
            elim (Contains-append_cases waiting (next ∷ []) (record { logged = logged; holds = true }) is) [
              | inl was ↦
                  let end = end_wider waiting (next ∷ []) (full ++ next ∷ []) logged.event
                  (end_more waiting logged.event waiting_in_full (ends logged was)) in
                  record { ending = end.ending; later = end.later; by = end.first other later }
              | inr now ↦ absurd (too_late_for full next knows_all may logged other later
                  (only_one next (record { logged = logged; holds = true }) now))
            ];
        last = clock_without;
        knows_all = LastKnowsAll-push full next (comes_next full next may) knows_all;
      }

      may_without : last_clock host (events_of full) ≡ last.logged.event.clock
          → MayFollow waiting last.logged.event → MayFollow waiting next.logged.event
      may_without newest may_last =
          let before = comes_next waiting last may_last in
          let last_named = of_host last last_in_full in
          let up = rises_after waiting last may_last in
          let over = (comes_next full next may).before knows_all last last_in_full (last_named ∙ sym named) in
          let name = last_named ∙ sym named in
          may_follow next.logged.event.host (last_clock next.logged.event.host (events_of waiting))
          next.logged.event.clock (rises name up over.own_rises)
          (subst (λ h. KnowsNoMore (last_clock h (events_of waiting)) next.logged.event.clock) name
          (λ n. omega (arith, before.last_known n, over.knows n)))
        where
          rises : last.logged.event.host ≡ next.logged.event.host
              → number_of last.logged.event.host (last_clock last.logged.event.host (events_of waiting))
              < own last.logged.event → own last.logged.event < own next.logged.event
              → number_of next.logged.event.host (last_clock next.logged.event.host (events_of waiting))
              < own next.logged.event
          rises name up over = omega (
            arith,
            up,
            over,
            ap (λ h. number_of h (last_clock h (events_of waiting))) name,
          )

-- What is kept with one event more.
module _ (host : Text) (full : List Taken) (kept : KeptEvents) (next : Taken) (keeps : KeepsEvents host full kept)
    (named : next.logged.event.host ≡ host) (may : MayFollow full next.logged.event) where
  of_host_push : (one : Taken) → Contains (full ++ next ∷ []) one → one.logged.event.host ≡ host
  of_host_push one is = elim (Contains-append_cases full (next ∷ []) one is) [
    | inl was ↦ keeps.of_host one was
    | inr now ↦ ap (λ (t : Taken). t.logged.event.host) (only_one next one now) ∙ named
  ]

  after_none : kept.last ≡ None → KeepsEvents host (full ++ next ∷ []) (with_after kept None next)
  after_none is =
      let all : all_kept kept ≡ kept.waiting = ap (λ (o : Option Taken). kept.waiting ++ option_to_list o) is
      ∙ append-nil kept.waiting in
      let thins : Thins kept.waiting full = subst (λ (l : List Taken). Thins l full) all keeps.thins in
      let turn : AreInTurn kept.waiting = subst AreInTurn all keeps.in_turn in
      record {
        of_host = of_host_push;
        thins = thins_push kept.waiting full next thins may;
        in_turn = in_turn_push kept.waiting next turn (may_kept kept.waiting full thins next.logged.event may);
        ended = λ logged there. absurd (nothing logged there);
        idle = λ idle logged there. absurd (nothing logged there);
        newest = newest_is host full next keeps.thins.knows_all named may;
        none = λ none. absurd (cc);
      }
    where
      nothing : (logged : Logged) → Contains kept.waiting (record { logged = logged; holds = true }) → ⊥
      nothing logged there =
          let (k, within, at) = subst (λ (l : List Taken). Contains l (record { logged = logged; holds = true }))
          (keeps.none is) there in omega (arith, within)

  after_some : (last : Taken) (goes_on : Bool) → kept.last ≡ Some last → (last.holds || kept.is_behind) ≡ goes_on
      → KeepsEvents host (full ++ next ∷ []) (with_after kept (Some last) next)
  after_some last true is stays =
      let all : all_kept kept ≡ kept.waiting ++ last ∷ [] =
      ap (λ (o : Option Taken). kept.waiting ++ option_to_list o) is in
      let thins : Thins (kept.waiting ++ last ∷ []) full = subst (λ (l : List Taken). Thins l full) all keeps.thins in
      let turn : AreInTurn (kept.waiting ++ last ∷ []) = subst AreInTurn all keeps.in_turn in
      let in_full = last_in_full host full next keeps.thins.knows_all named may kept.waiting last thins keeps.of_host in
      let ended : (logged : Logged) → Contains kept.waiting (record { logged = logged; holds = true })
      → HasEnd (kept.waiting ++ last ∷ []) (full ++ next ∷ []) logged.event =
      λ logged there. end_more host full next keeps.thins.knows_all named may (kept.waiting ++ last ∷ []) logged.event
      thins.among (subst (λ (l : List Taken). HasEnd l full logged.event) all (keeps.ended logged there)) in
      rw stays (record {
        of_host = of_host_push;
        thins = thins_push (kept.waiting ++ last ∷ []) full next thins may;
        in_turn = in_turn_push (kept.waiting ++ last ∷ []) next turn
            (may_kept (kept.waiting ++ last ∷ []) full thins next.logged.event may);
        ended = λ logged there.
            elim (Contains-append_cases kept.waiting (last ∷ []) (record { logged = logged; holds = true }) there) [
              | inl was ↦ end_wider host full next keeps.thins.knows_all named may (kept.waiting ++ last ∷ [])
                  (next ∷ [])
                  (full ++ next ∷ []) logged.event (ended logged was)
              | inr now ↦ subst (λ (t : Taken). HasEnd ((kept.waiting ++ last ∷ []) ++ next ∷ []) (full ++ next ∷ [])
                  t.logged.event) (sym (only_one last (record { logged = logged; holds = true }) now))
                  (ends_last host full next keeps.thins.knows_all named may (kept.waiting ++ last ∷ []) last in_full
                  (keeps.of_host last in_full) (keeps.newest last is))
            ];
        idle = λ fails logged there.
            elim (Contains-append_cases kept.waiting (last ∷ []) (record { logged = logged; holds = true }) there) [
              | inl was ↦ ended logged was
              | inr now ↦ absurd (false≢true (sym fails ∙ sym (ap (λ (t : Taken). t.holds)
                  (only_one last (record { logged = logged; holds = true }) now))))
            ];
        newest = newest_is host full next keeps.thins.knows_all named may;
        none = λ none. absurd (cc);
      })
  after_some last false is stays =
      let all : all_kept kept ≡ kept.waiting ++ last ∷ [] =
      ap (λ (o : Option Taken). kept.waiting ++ option_to_list o) is in
      let thins : Thins (kept.waiting ++ last ∷ []) full = subst (λ (l : List Taken). Thins l full) all keeps.thins in
      let turn : AreInTurn (kept.waiting ++ last ∷ []) = subst AreInTurn all keeps.in_turn in
      let fails : last.holds ≡ false = first_false last.holds kept.is_behind stays in
      let idle = keeps.idle (second_false last.holds kept.is_behind stays) in
      let more : (logged : Logged) → Contains kept.waiting (record { logged = logged; holds = true })
      → HasEnd kept.waiting (full ++ next ∷ []) logged.event = λ logged there. end_more host full next
      keeps.thins.knows_all named may kept.waiting logged.event
      (waiting_in_full host full next keeps.thins.knows_all named may kept.waiting last thins keeps.of_host)
      (idle logged there) in
      rw stays (record {
        of_host = of_host_push;
        thins = thins_without host full next keeps.thins.knows_all named may kept.waiting last thins keeps.of_host fails
            idle;
        in_turn = in_turn_push kept.waiting next (in_turn_less kept.waiting last turn)
            (may_without host full next keeps.thins.knows_all named may kept.waiting last thins keeps.of_host fails idle
            (keeps.newest last is) (in_turn_last kept.waiting last turn));
        ended = λ logged there. end_wider host full next keeps.thins.knows_all named may kept.waiting (next ∷ [])
            (full ++ next ∷ []) logged.event (more logged there);
        idle = λ _ logged there. more logged there;
        newest = newest_is host full next keeps.thins.knows_all named may;
        none = λ none. absurd (cc);
      })
    where
      first_false : (a b : Bool) → (a || b) ≡ false → a ≡ false
      first_false true b is = absurd (cc)
      first_false false b is = refl

      second_false : (a b : Bool) → (a || b) ≡ false → b ≡ false
      second_false true b is = absurd (cc)
      second_false false b is = is

  after_last : (last : Option Taken) → kept.last ≡ last
      → KeepsEvents host (full ++ next ∷ []) (with_after kept last next)
  after_last None is = after_none is
  after_last (Some last) is = after_some last (last.holds || kept.is_behind) is refl

  pub keeps_push : KeepsEvents host (full ++ next ∷ []) (with_next kept next)
  keeps_push = after_last kept.last refl

pub keeps_none : (host : Text) → KeepsEvents host [] no_events
keeps_none host = record {
  of_host = λ one is. absurd (nothing one is);
  thins = record {
    among = λ one is. is;
    held = λ logged is. is;
    ends = λ logged is other later. absurd (nothing other later.was_taken);
    last = λ host. refl;
    knows_all = λ one is. absurd (nothing one is);
  };
  in_turn = λ p one within. absurd (omega (arith, within));
  ended = λ logged is. absurd (nothing (record { logged = logged; holds = true }) is);
  idle = λ idle logged is. absurd (nothing (record { logged = logged; holds = true }) is);
  newest = λ one is. absurd (cc);
  none = λ is. refl;
}
  where
    nothing : (one : Taken) → Contains [] one → ⊥
    nothing one (k, within, at) = omega (arith, within)
