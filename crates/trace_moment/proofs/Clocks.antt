-- The clocks of what is taken, one after another.
use Rattle.std.proofs.lemmas.Grind.{common_steps}
use Rattle.trace_moment.proofs.Words.{◌≡◌, ℕ, ◌<◌, ◌≤◌, false, cond, max, Ok, List, [], ◌∷◌, ◌++◌, refl, ◌∙◌, ap, subst}
use Rattle.trace_moment.proofs.Words.{arith, ◌⊎◌, ⊎_elim, lt-ltb, map-append, Contains, Contains-append_left, bytes_eq}
use Rattle.trace_moment.proofs.Words.{bytes_eq-Decides, clock_after-push, Member, last_clock, falls, follows, Taken}
use Rattle.trace_moment.proofs.Words.{own}
use Rattle.trace_moment.proofs.Words.{events_of, MayFollow, Follow, KnowsNoMore, ComesBefore, LastKnowsAll, ◌≢◌}
use Rattle.trace_log.specs.Clock.{number_of}
use Rattle.std.proofs.lemmas.Bool.{cases_Bool}

-- A clock with a member more knows no less.
pub number_of-cons : (name : List ℕ) (one : Member) (others : List Member) → number_of name others ≤ number_of name
    (one ∷ others)
unfolding number_of
number_of-cons name one others = grind (arith, cases_Bool (bytes_eq one.name name))

pub le-number_of : (one : Member) (others : List Member) → one.number ≤ number_of one.name (one ∷ others)
unfolding number_of
le-number_of one others = grind (arith, bytes_eq-Decides one.name one.name)

-- Where no number falls, the later clock knows no less.
pub knows-from_falls : (earlier later : List Member) → falls earlier later ≡ false → KnowsNoMore earlier later
unfolding number_of
knows-from_falls [] later none name = omega arith
knows-from_falls (one ∷ others) later none name =
    let here : one.number ≤ number_of one.name later = grind arith in
    let rest = knows-from_falls others later (grind arith) name in
    by_name here rest
  where
    by_name : one.number ≤ number_of one.name later → number_of name others ≤ number_of name later
        → cond (bytes_eq one.name name) (max one.number (number_of name others)) (number_of name others)
        ≤ number_of name later
    by_name here rest = grind (arith, cases_Bool (bytes_eq one.name name), bytes_eq-Decides one.name name)

-- And the other way round.
pub falls-from_knows : (earlier later : List Member) → KnowsNoMore earlier later → falls earlier later ≡ false
falls-from_knows [] later knows = refl
falls-from_knows (one ∷ others) later knows =
    let here : one.number ≤ number_of one.name later = omega (arith, le-number_of one others, knows one.name) in
    let rest = falls-from_knows others later (λ name. omega (arith, number_of-cons name one others, knows name)) in
    grind arith

pub may_follow : (host : List ℕ) (earlier later : List Member) → number_of host earlier < number_of host later
    → KnowsNoMore earlier later → follows host earlier later ≡ Ok tt
may_follow host earlier later rises knows = rw (lt-ltb _ _ rises, falls-from_knows earlier later knows) refl

-- The number of a clock with a member more of that name.
pub number_of-itself : (name : List ℕ) (number : ℕ) (others : List Member)
    → number_of name (record { name = name; number = number } ∷ others) ≡ max number (number_of name others)
unfolding number_of
number_of-itself name number others = rw ((bytes_eq-Decides name name).1 refl) refl

-- The clock of a host's last event, with one event more.
last_clock-push : (host : List ℕ) (taken : List Taken) (next : Taken)
    → last_clock host (events_of (taken ++ next ∷ [])) ≡ cond
    (bytes_eq next.logged.event.host host) next.logged.event.clock (last_clock host (events_of taken))
last_clock-push host taken next = grind (arith, map-append, clock_after-push)

-- What an event is to those taken before it.
pub record ComesNext (taken : List Taken) (next : Taken) : Type 0 where
  pub own_some : 0 < own next.logged.event
  pub last_known : KnowsNoMore (last_clock next.logged.event.host (events_of taken)) next.logged.event.clock
  pub itself : last_clock next.logged.event.host (events_of (taken ++ next ∷ [])) ≡ next.logged.event.clock
  pub others : (host : List ℕ) → next.logged.event.host ≢ host → last_clock host (events_of (taken ++ next ∷ []))
      ≡ last_clock host (events_of taken)
  pub before : LastKnowsAll taken → (one : Taken) → Contains taken one
      → one.logged.event.host ≡ next.logged.event.host → ComesBefore one.logged.event next.logged.event

pub comes_next : (taken : List Taken) (next : Taken) → MayFollow taken next.logged.event → ComesNext taken next
comes_next taken next follows = record {
  own_some = omega (arith, own_rises);
  last_known = last_known;
  itself = last_clock-push _ taken next
      ∙ rw ((bytes_eq-Decides next.logged.event.host next.logged.event.host).1 refl) refl;
  others = λ host other. grind (arith, last_clock-push, bytes_eq-Decides);
  before = λ last one was_taken same.
      let knows : KnowsNoMore one.logged.event.clock (last_clock next.logged.event.host (events_of taken)) =
      rw (← same) (last one was_taken) in
      record {
        own_rises =
            omega (
              arith,
              ap (λ host. number_of host one.logged.event.clock) same,
              knows next.logged.event.host,
              own_rises,
            );
        knows = λ name. omega (arith, knows name, last_known name);
      };
}
  where
    own_rises : number_of next.logged.event.host (last_clock next.logged.event.host (events_of taken)) < own
        next.logged.event
    own_rises = grind arith

    last_known : KnowsNoMore (last_clock next.logged.event.host (events_of taken)) next.logged.event.clock
    last_known = knows-from_falls (last_clock next.logged.event.host (events_of taken)) next.logged.event.clock
        (grind arith)

module _ (taken : List Taken) (next : Taken) (comes : ComesNext taken next) where
  pub last_clock-grows : (host : List ℕ) → KnowsNoMore (last_clock host (events_of taken))
      (last_clock host (events_of (taken ++ next ∷ [])))
  last_clock-grows host name = grind arith

  pub LastKnowsAll-push : LastKnowsAll taken → LastKnowsAll (taken ++ next ∷ [])
  LastKnowsAll-push last one was_taken name = grind (arith, common_steps)

pub first_or_later : (next : Taken) (more : List Taken) (one : Taken) → Contains (next ∷ more) one
    → (next ≡ one) ⊎ Contains more one
first_or_later next more one is = grind arith

-- What was taken of a host comes before its events that follow.
pub ComesBefore-more : (taken more : List Taken) (one later : Taken) → LastKnowsAll taken → Follow taken more
    → Contains taken one → Contains more later → one.logged.event.host ≡ later.logged.event.host
    → ComesBefore one.logged.event later.logged.event
ComesBefore-more taken [] one later last follow was_taken (k, within, is) same = absurd (omega arith)
ComesBefore-more taken (next ∷ more) one later last follow was_taken comes same =
    let now = comes_next taken next follow.0 in
    ⊎_elim (λ (is : next ≡ later). subst (λ (x : Taken). ComesBefore one.logged.event x.logged.event) is
    (now.before last one was_taken (rw is same)))
    (λ (in_more : Contains more later). ComesBefore-more (taken ++ next ∷ []) more one later
    (LastKnowsAll-push taken next now last) follow.1 (Contains-append_left taken (next ∷ []) one was_taken)
    in_more same) (first_or_later next more later comes)

pub last_known-more : (taken more : List Taken) (later : Taken) → Follow taken more → Contains more later
    → KnowsNoMore (last_clock later.logged.event.host (events_of taken)) later.logged.event.clock
last_known-more taken [] later follow (k, within, is) name = absurd (omega arith)
last_known-more taken (next ∷ more) later follow comes name =
    let now = comes_next taken next follow.0 in
    ⊎_elim (λ (is : next ≡ later). rw (← is) (now.last_known name)) (λ (in_more : Contains more later). omega (
      arith,
      last_clock-grows taken next now later.logged.event.host name,
      last_known-more (taken ++ next ∷ []) more later follow.1 in_more name,
    ))
    (first_or_later next more later comes)
