-- What was taken, as far as it lies behind a moment.
use Rattle.std.proofs.lemmas.Bool.{cases_Bool, cases_lt}
use Rattle.std.proofs.lemmas.List.Elements.{Contains-get_or}
use Rattle.std.proofs.lemmas.Simd.{map-map}
use Rattle.std.specs.Prelude.{◌&&◌, ◌||◌, not, nat_le}
use Rattle.trace_moment.specs.Behind.{is_up_to, only_behind, behind, AreThoseBehind}
use Rattle.trace_moment.proofs.Words.{◌≡◌, ℕ, ◌<◌, ◌≤◌, Bool, true, false, Ok, List, [], ◌∷◌, ◌++◌, length, get_or}
use Rattle.trace_moment.proofs.Words.{refl, sym, ◌∙◌, ap, subst, arith, zero, suc, ⊎_elim, false≢true, map-append}
use Rattle.trace_moment.proofs.Words.{get_or-map, length-map, Contains, Contains-append_left, Contains-append_cases}
use Rattle.trace_moment.proofs.Words.{Contains-append_right, bytes_eq, bytes_eq-Decides, last_clock, follows, Event}
use Rattle.trace_moment.proofs.Words.{HostWatch, Taken, watch_at, HaveDistinctHosts, own, IsLater, IsOver, IsMoment}
use Rattle.trace_moment.proofs.Words.{events_of, MayFollow, Follow, LastKnowsAll, HasEnded, Candidate}
use Rattle.trace_moment.proofs.Words.{Logged, Lasting, While, At}

-- An event up to a moment is one of a watched host, with a number no greater than that of the moment's event.
abbrev pub ComesUpTo : List HostWatch → (ℕ → Logged) → Event → Type 0
ComesUpTo watched moment event = (p : ℕ) × (p < length watched) × ((watch_at watched p).host ≡ event.host)
    × (own event ≤ own (moment p).event)

pub up_to_is : (watched : List HostWatch) (moment : ℕ → Logged) (event : Event) → is_up_to watched moment event ≡ true
    → ComesUpTo watched moment event
up_to_is [] moment event is = absurd (false≢true is)
up_to_is (one ∷ others) moment event is =
    by_first (up_to_is others (λ p. moment (suc p)) event) (bytes_eq one.host event.host)
    (nat_le (own event) (own (moment 0).event)) refl refl is
  where
    by_first : (is_up_to others (λ p. moment (suc p)) event ≡ true → ComesUpTo others (λ p. moment (suc p)) event)
        → (same low : Bool) → bytes_eq one.host event.host ≡ same → nat_le (own event) (own (moment 0).event) ≡ low
        → (same && low) || is_up_to others (λ p. moment (suc p)) event ≡ true → ComesUpTo (one ∷ others) moment event
    by_first rest true true host number up =
        (0, omega arith, (bytes_eq-Decides one.host event.host).0 host, grind arith)
    by_first rest true false host number up =
        let (p, within, same, low) = rest up in (suc p, omega arith, same, low)
    by_first rest false low host number up =
        let (p, within, same, low) = rest up in (suc p, omega arith, same, low)

pub up_to_from : (watched : List HostWatch) (moment : ℕ → Logged) (event : Event) (p : ℕ) → p < length watched
    → event.host ≡ (watch_at watched p).host → own event ≤ own (moment p).event → is_up_to watched moment event ≡ true
up_to_from [] moment event p within host low = absurd (omega arith)
up_to_from (one ∷ others) moment event zero within host low = grind (arith, bytes_eq-Decides one.host event.host)
up_to_from (one ∷ others) moment event (suc p) within host low =
    let rest = up_to_from others (λ p. moment (suc p)) event p (omega arith) host low in
    grind (arith, cases_Bool)

-- A later event of one of the watched hosts is not up to it.
pub not_up_to : (watched : List HostWatch) (moment : ℕ → Logged) (event : Event) (p : ℕ) → HaveDistinctHosts watched
    → p < length watched → event.host ≡ (watch_at watched p).host → own (moment p).event < own event
    → is_up_to watched moment event ≡ false
not_up_to watched moment event p distinct within host above = by_answer (is_up_to watched moment event) refl
  where
    by_answer : (up : Bool) → is_up_to watched moment event ≡ up → up ≡ false
    by_answer false is = refl
    by_answer true is =
        let (q, q_within, same, low) = up_to_is watched moment event is in
        let one : p ≡ q = distinct p q within q_within (sym host ∙ sym same) in
        absurd (omega (arith, above, low, ap (λ (r : ℕ). own (moment r).event) one))

pub behind_from : (watched : List HostWatch) (moment : ℕ → Logged) (event : Event) (p : ℕ) → p < length watched
    → event.host ≡ (watch_at watched p).host → is_up_to watched moment event ≡ false
    → own (moment p).event < own event
behind_from watched moment event p within host not_up = ⊎_elim
    (λ (above : own (moment p).event < own event). above)
    (λ (low : own event ≤ own (moment p).event). absurd (false≢true (sym not_up
    ∙ up_to_from watched moment event p within host low)))
    (cases_lt (own (moment p).event) (own event))

-- Each event of these is one of the others, whether or not its condition holds there.
abbrev pub HaveEvents : List Taken → List Taken → Type 0
HaveEvents all others = (one : Taken) → Contains all one
    → (other : Taken) × Contains others other × (other.logged ≡ one.logged)

pub HaveEvents-more : (all others more : List Taken) → HaveEvents all others → HaveEvents (all ++ more) (others ++ more)
HaveEvents-more all others more have one is = ⊎_elim
    (λ (now : Contains all one). let (other, there, same) = have one now in
    (other, Contains-append_left others more other there, same))
    (λ (later : Contains more one). (one, Contains-append_right others more one later, refl))
    (Contains-append_cases all more one is)

module _ (all others : List Taken) (have : HaveEvents all others) where
  IsLater-have : (event : Event) (later : Taken) → IsLater all event later
      → (other : Taken) × IsLater others event other × (other.logged ≡ later.logged)
  IsLater-have event later is =
      let (other, there, same) = have later is.was_taken in (
        other,
        record { was_taken = there; host = rw same is.host; after = rw same is.after },
        same,
      )

  pub IsOver-have : (lasting : Lasting) (e f : Event) → IsOver lasting all e f → IsOver lasting others e f
  IsOver-have At e f over = over
  IsOver-have While e f (later, is, before) =
      let (other, there, same) = IsLater-have e later is in (other, there, rw same before)

pub HasEnded-have : (all others : List Taken) → HaveEvents all others → HaveEvents others all → (lasting : Lasting)
    (one : Candidate) → HasEnded lasting all one → HasEnded lasting others one
HasEnded-have all others have back At one ended = ended
HasEnded-have all others have back While one (next, after, number, least) =
    let (other, there, same) = IsLater-have all others have one.logged.event next after in (
      other,
      there,
      rw same number,
      λ later is. let (before, here, alike) = IsLater-have others all back one.logged.event later is in
          rw (← alike) (least before here),
    )

-- The same events are followed by the same ones.
events_push : (all others : List Taken) (next : Taken) → events_of all ≡ events_of others
    → events_of (all ++ next ∷ []) ≡ events_of (others ++ next ∷ [])
events_push all others next same = map-append (λ (one : Taken). one.logged.event) all (next ∷ [])
    ∙ ap (λ (events : List Event). events ++ next.logged.event ∷ []) same
    ∙ sym (map-append (λ (one : Taken). one.logged.event) others (next ∷ []))

pub MayFollow-same : (all others : List Taken) (event : Event) → events_of all ≡ events_of others → MayFollow all event
    → MayFollow others event
MayFollow-same all others event same follow =
    subst (λ (events : List Event). follows event.host (last_clock event.host events) event.clock ≡ Ok tt) same follow

pub Follow-same : (all others more : List Taken) → events_of all ≡ events_of others → Follow all more
    → Follow others more
Follow-same all others [] same follow = tt
Follow-same all others (next ∷ more) same follow = (
  MayFollow-same all others next.logged.event same follow.0,
  Follow-same (all ++ next ∷ []) (others ++ next ∷ []) more (events_push all others next same) follow.1,
)

module _ (watched : List HostWatch) (moment : ℕ → Logged) (taken : List Taken) where
  pub events_behind : events_of (behind watched moment taken) ≡ events_of taken
  events_behind = map-map (λ (one : Taken). one.logged.event) (only_behind watched moment) taken

  Contains-behind : (one : Taken) → Contains taken one
      → Contains (behind watched moment taken) (only_behind watched moment one)
  Contains-behind one (k, within, is) = (
    k,
    omega (arith, length-map taken (only_behind watched moment)),
    get_or-map (only_behind watched moment) taken k one (only_behind watched moment one) within
        ∙ ap (only_behind watched moment) is,
  )

  Contains-taken : (one : Taken) → Contains (behind watched moment taken) one
      → (before : Taken) × Contains taken before × (only_behind watched moment before ≡ one)
  Contains-taken one (k, within, is) =
      let inside : k < length taken = omega (arith, length-map taken (only_behind watched moment)) in (
        get_or taken k one,
        Contains-get_or taken k one inside,
        sym (get_or-map (only_behind watched moment) taken k one one inside) ∙ is,
      )

  pub behind_has : HaveEvents taken (behind watched moment taken)
  behind_has one is = (only_behind watched moment one, Contains-behind one is, refl)

  pub behind_had : HaveEvents (behind watched moment taken) taken
  behind_had one is = let (before, there, same) = Contains-taken one is in
      (before, there, ap (λ (x : Taken). x.logged) same)

  pub LastKnowsAll-behind : LastKnowsAll taken → LastKnowsAll (behind watched moment taken)
  LastKnowsAll-behind last one is name =
      let (before, there, same) = behind_had one is in rw (events_behind, ← same) (last before there name)

  -- The condition holds at an event of these where it did, and where the event isn't up to the moment.
  pub held_before : (logged : Logged)
      → Contains (behind watched moment taken) (record { logged = logged; holds = true })
      → Contains taken (record { logged = logged; holds = true }) × (is_up_to watched moment logged.event ≡ false)
  held_before logged is =
      let (before, there, same) = Contains-taken (record { logged = logged; holds = true }) is in
      let at : before.logged ≡ logged = ap (λ (x : Taken). x.logged) same in
      let both : not (is_up_to watched moment before.logged.event) && before.holds ≡ true =
      ap (λ (x : Taken). x.holds) same in
      let parts : (before.holds ≡ true) × (is_up_to watched moment before.logged.event ≡ false) =
      both_parts (is_up_to watched moment before.logged.event) before.holds both in (
        subst (Contains taken) (known_holds before logged at parts.0) there,
        rw at at parts.1,
      )
    where
      both_parts : (up holds : Bool) → not up && holds ≡ true → (holds ≡ true) × (up ≡ false)
      both_parts false true is = (refl, refl)
      both_parts false false is = absurd (false≢true is)
      both_parts true holds is = absurd (false≢true is)

      known_holds : (one : Taken) (logged : Logged) → one.logged ≡ logged → one.holds ≡ true
          → one ≡ record { logged = logged; holds = true }
      known_holds one logged at holds = rw (← at, ← holds) refl

  pub held_behind : (logged : Logged) → Contains taken (record { logged = logged; holds = true })
      → is_up_to watched moment logged.event ≡ false
      → Contains (behind watched moment taken) (record { logged = logged; holds = true })
  held_behind logged is not_up = subst (λ (up : Bool). Contains (behind watched moment taken)
      (record { logged = logged; holds = not up && true })) not_up
      (Contains-behind (record { logged = logged; holds = true }) is)

  -- A moment of these, and of what comes later, is one of what was taken.
  pub IsMoment-taken : (more : List Taken) (other : ℕ → Logged)
      → IsMoment watched (behind watched moment taken ++ more) other → IsMoment watched (taken ++ more) other
  IsMoment-taken more other is = record {
    held = λ p within. ⊎_elim
        (λ (now : Contains (behind watched moment taken) (record { logged = other p; holds = true })).
        Contains-append_left taken more _ (held_before (other p) now).0)
        (λ (later : Contains more (record { logged = other p; holds = true })).
        Contains-append_right taken more _ later)
        (Contains-append_cases (behind watched moment taken) more _ (is.held p within));
    host = is.host;
    together = λ p q p_within q_within apart over. is.together p q p_within q_within apart
        (IsOver-have (taken ++ more) (behind watched moment taken ++ more)
        (HaveEvents-more taken (behind watched moment taken) more behind_has) _ _ _ over);
  }

-- The moments of what lies behind one are those that lie behind it.
pub are_those_behind : (watched : List HostWatch) (before : ℕ → Logged) (taken : List Taken) → HaveDistinctHosts watched
    → AreThoseBehind watched before taken
are_those_behind watched before taken distinct moment = (
  λ is. (
    record {
      held = λ p within. (held_before watched before taken (moment p) (is.held p within)).0;
      host = is.host;
      together = λ p q p_within q_within apart over. is.together p q p_within q_within apart
          (IsOver-have taken (behind watched before taken) (behind_has watched before taken) _ _ _ over);
    },
    λ p within. behind_from watched before (moment p).event p within (is.host p within)
        (held_before watched before taken (moment p) (is.held p within)).1,
  ),
  λ both. record {
    held = λ p within. held_behind watched before taken (moment p) (both.0.held p within)
        (not_up_to watched before (moment p).event p distinct within (both.0.host p within) (both.1 p within));
    host = both.0.host;
    together = λ p q p_within q_within apart over. both.0.together p q p_within q_within apart
        (IsOver-have (behind watched before taken) taken (behind_had watched before taken) _ _ _ over);
  },
)
