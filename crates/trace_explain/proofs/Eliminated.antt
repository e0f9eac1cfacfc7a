-- The states that elimination leaves.
use Rattle.trace_explain.proofs.Words.{◌≡◌, ◌≢◌, ℕ, ◌+◌, ◌<◌, ◌≤◌, true, List, [], ◌∷◌, ◌++◌, length, get_or, refl}
use Rattle.trace_explain.proofs.Words.{sym, ◌∙◌, ap, subst, arith, suc, inl, inr, ◌⊎◌, ⊎_elim, false≢true, take}
use Rattle.trace_explain.proofs.Words.{filter, number_of, Event, Logged, HostWatch, Taken, watch_at, own}
use Rattle.trace_explain.proofs.Words.{IsOver, IsMoment, Lasting, While, At, KnowsNoMore, StateOver, Past, past_of, of_host, PastHost, past_host}
use Rattle.trace_explain.proofs.Words.{past_at, number_at, AreInOrder, IsAt, IsLastKnown, KnowsUpTo, EndsChance}
use Rattle.trace_explain.proofs.Words.{IsNextState, IsLastUpTo, Left, AreFirst, DropsFirst, end_at, is_over_at}
use Rattle.trace_explain.proofs.Words.{◌-◌, IsLeft, Option, Some, None, IsKnownLine, filter_more}
use Rattle.trace_explain.proofs.Words.{length-map, get_or-map, length-set, get_or-set_same, get_or-set_other, host_at, no_host}
use Rattle.trace_explain.proofs.Words.{watched_in, KeepPast, left_at, IsOverAt, IsReason, AreLeft, set}
use Rattle.trace_explain.specs.History.{watch_past}
use Rattle.std.proofs.lemmas.Bool.{cases_eq}
use Rattle.trace_explain.proofs.Filters.{filter-none, zip_push}
use Rattle.trace_explain.proofs.Events.{event-at, same-at, at-was_taken, at-host, at-place, own-at, knows-at, own-up_to}
use Rattle.trace_explain.proofs.Events.{over-from, length-kept, kept-at, number-kept, before_or, before-at, some_taken, at-get}

-- What it means that the first state of p is over at that of another host.
pub record OverFacts (one : Left) (p : ℕ) (other : Left) : Type 0 where
  pub end : end_at one.host.lasting one.front < length one.host.events
  pub at : other.front < length other.host.events
  pub counted : number_at one.host (end_at one.host.lasting one.front) p ≤ number_at other.host other.front p

pub over-facts : (one : Left) (p : ℕ) (other : Left) → is_over_at one p other ≡ true → OverFacts one p other
over-facts one p other is = record { end = grind arith; at = grind arith; counted = grind arith }

pub over-bool : (one : Left) (p : ℕ) (other : Left) → OverFacts one p other → is_over_at one p other ≡ true
over-bool one p other facts = grind (arith, facts.end, facts.at, facts.counted)

pub front-below : (lasting : Lasting) (k n : ℕ) → end_at lasting k < n → k < n
front-below lasting k n below = grind arith

-- What is over at an event is over at one that knows no less.
pub over-later : (taken : List Taken) (lasting : Lasting) (state event later : Event) → KnowsNoMore event.clock later.clock
    → IsOver lasting taken state event → IsOver lasting taken state later
over-later taken While state event later knows (end, is, before) =
    (end, is, omega (arith, before, knows end.logged.event.host))
over-later taken At state event later knows before = omega (arith, before, knows state.host)

module _ (watched : List HostWatch) (taken : List Taken) (in_order : AreInOrder taken) where
  abbrev name : ℕ → List ℕ
  name p = (watch_at watched p).host

  -- What is kept of a host says what was taken.
  module _ (p : ℕ) (host : PastHost) (same : host ≡ past_host watched taken (watch_at watched p)) where
    pub length-same : length host.events ≡ length (of_host (name p) taken)
    length-same = ap (λ (h : PastHost). length h.events) same ∙ length-kept watched taken (watch_at watched p)

    pub past-same : (k : ℕ) (one : Taken) → IsAt (name p) taken k one → past_at host k ≡ past_of watched one
    past-same k one is = ap (λ (h : PastHost). past_at h k) same ∙ kept-at watched taken (watch_at watched p) k one is

    pub number-same : (k : ℕ) (one : Taken) (q : ℕ) → IsAt (name p) taken k one → q < length watched
        → number_at host k q ≡ number_of (name q) one.logged.event.clock
    number-same k one q is within = ap (λ (h : PastHost). number_at h k q) same
        ∙ number-kept watched taken (watch_at watched p) k one q is within

    pub holds-same : (k : ℕ) (one : Taken) → IsAt (name p) taken k one → (past_at host k).holds ≡ one.holds
    holds-same k one is = ap (λ (x : Past). x.holds) (past-same k one is)

    pub line-same : (k : ℕ) (one : Taken) → IsAt (name p) taken k one → (past_at host k).line ≡ one.logged.line
    line-same k one is = ap (λ (x : Past). x.line) (past-same k one is)

    pub lasting-same : host.lasting ≡ (watch_at watched p).lasting
    lasting-same = ap (λ (h : PastHost). h.lasting) same

    pub taken-at : (k : ℕ) → k < length host.events → (one : Taken) × IsAt (name p) taken k one
    taken-at k within = event-at (name p) taken k (omega (arith, length-same))

    -- The last event that a number counts is the last one that an event with this number knows.
    pub known-last : (number : ℕ) (event : Event) (k : ℕ) → p < length watched → number ≡ number_of (name p) event.clock
        → IsLastUpTo host.events p number k
        → (one : Taken) × IsLastKnown (name p) taken event k one
    known-last number event k within is last =
        let here = taken-at k last.is.within in (
          here.0,
          record {
            at = here.1;
            known = omega (
              arith,
              own-at (name p) taken k here.0 here.1,
              number-same k here.0 p here.1 within,
              last.is.up_to,
              is,
            );
            last = λ next behind. omega (
              arith,
              own-at (name p) taken (k + 1) next behind,
              number-same (k + 1) next p behind within,
              last.last (omega (arith, behind.within, length-same)),
              is,
            );
          },
        )

    pub known-line : (number : ℕ) (event : Event) (line : Option ℕ) → p < length watched
        → number ≡ number_of (name p) event.clock → IsKnownLine host.events p number line
        → KnowsUpTo (name p) taken event line
    known-line number event (Some line) within is (k, last, at_line) =
        let known = known-last number event k within is last in
        (k, known.0, known.1, sym (at_line ∙ line-same k known.0 known.1.at))
    known-line number event None within is none = λ first here. omega (
      arith,
      own-at (name p) taken 0 first here,
      number-same 0 first p here within,
      none (omega (arith, here.within, length-same)),
      is,
    )

    -- No moment's event stands between a place and the next state.
    pub next-up_to : (from next k : ℕ) (member : Logged) → IsNextState host.events from next → from ≤ k
        → IsAt (name p) taken k (record { logged = member; holds = true }) → next ≤ k
    next-up_to from next k member is behind here =
        ⊎_elim (λ (below : suc k ≤ next).
        absurd (false≢true (sym (is.between k behind (omega arith))
        ∙ holds-same k (record { logged = member; holds = true }) here))) (λ (up_to : next ≤ k). up_to) (before_or k next)

    pub none-between : (from next : ℕ) → IsNextState host.events from next
        → filter (λ one. one.holds) (take next (of_host (name p) taken))
        ≡ filter (λ one. one.holds) (take from (of_host (name p) taken))
    none-between from next is =
        let same_place : from + (next - from) ≡ next = omega (arith, is.behind) in
        ap (λ (n : ℕ). filter (λ one. one.holds) (take n (of_host (name p) taken))) (sym same_place)
        ∙ filter-none (λ one. one.holds) (of_host (name p) taken) some_taken from (next - from)
        (omega (arith, is.within, length-same, same_place))
        (λ k behind below.
        let within : k < length (of_host (name p) taken) = omega (arith, is.within, length-same, same_place) in
        sym (holds-same k (get_or (of_host (name p) taken) k some_taken) (at-get (name p) taken k within))
        ∙ is.between k behind (omega arith))

    pub next-holds : (from next : ℕ) (one : Taken) → IsNextState host.events from next → IsAt (name p) taken next one
        → one.holds ≡ true
    next-holds from next one is here = sym (holds-same next one here)
        ∙ is.holds (omega (arith, here.within, length-same))

  -- The first states of all.
  pub IsLeft-all : (p : ℕ) (host : PastHost) (left : Left) → p < length watched
      → host ≡ past_host watched taken (watch_at watched p) → AreFirst host left → IsLeft watched taken p left
  IsLeft-all p host left within same first = record {
    same = first.same ∙ same;
    within = omega (arith, first.front.within, length-same p host same);
    holds = λ one here. next-holds p host same 0 left.front one first.front here;
    each = rw (none-between p host same 0 left.front first.front, first.over) tt;
    moments = λ moment is.
        let place = at-place (name p) taken (record { logged = moment p; holds = true }) (is.held p within)
        (is.host p within) in
        (place.0, next-up_to p host same 0 left.front place.0 (moment p) first.front (omega arith) place.1, place.1);
  }

  -- The reason of a state that is over.
  pub ends-chance : (p q : ℕ) (one other : Left) (reason : StateOver) (state : Taken) (known : ℕ) → p < length watched
      → q < length watched → q ≢ p → IsLeft watched taken p one → IsLeft watched taken q other
      → OverFacts one p other → IsAt (name p) taken one.front state → reason.line ≡ (past_at one.host one.front).line
      → reason.at_place ≡ q → reason.at_line ≡ (past_at other.host other.front).line
      → IsLastUpTo one.host.events p (number_at other.host other.front p) known
      → reason.knows_up_to ≡ (past_at one.host known).line → EndsChance watched taken p state reason
  ends-chance p q one other reason state known p_in q_in differ left_one left_other facts is line at_place at_line last
      up_to =
      let here = taken-at q other.host left_other.same other.front facts.at in
      let end = taken-at p one.host left_one.same (end_at one.host.lasting one.front) facts.end in
      let number = number-same q other.host left_other.same other.front here.0 p here.1 p_in in
      let counted : own end.0.logged.event ≤ number_of (name p) here.0.logged.event.clock =
      omega (
        arith,
        own-at (name p) taken (end_at one.host.lasting one.front) end.0 end.1,
        number-same p one.host left_one.same (end_at one.host.lasting one.front) end.0 p end.1 p_in,
        number,
        facts.counted,
      ) in
      record {
        line = line ∙ line-same p one.host left_one.same one.front state is;
        at = here.0;
        place = rw at_place q_in;
        other = rw at_place differ;
        was_taken = at-was_taken (name q) taken other.front here.0 here.1;
        of_host = at-host (name q) taken other.front here.0 here.1 ∙ ap name (sym at_place);
        at_line = at_line ∙ line-same q other.host left_other.same other.front here.0 here.1;
        knows = known-line p one.host left_one.same (number_at other.host other.front p) here.0.logged.event
            (Some reason.knows_up_to) p_in number (known, last, up_to);
        is_over = subst (λ (lasting : Lasting). IsOver lasting taken state.logged.event here.0.logged.event)
            (lasting-same p one.host left_one.same)
            (over-from (name p) taken in_order one.host.lasting one.front state end.0 here.0.logged.event is end.1
            counted);
        begun = λ moment is_moment.
            let later = left_other.moments moment is_moment in
            rw at_place (own-up_to (name q) taken in_order other.front later.0 here.0
            (record { logged = moment q; holds = true }) later.1 here.1 later.2);
      }

  -- A state for which there is such a reason is in no moment.
  pub none-chance : (p : ℕ) (state : Taken) (reason : StateOver) → p < length watched
      → EndsChance watched taken p state reason → (moment : ℕ → Logged) → IsMoment watched taken moment
      → moment p ≡ state.logged → ⊥
  none-chance p state reason within ends moment is same =
      let q : ℕ = reason.at_place in
      let member : Taken = record { logged = moment q; holds = true } in
      let here = at-place (name q) taken ends.at ends.was_taken ends.of_host in
      let later = at-place (name q) taken member (is.held q ends.place) (is.host q ends.place) in
      let knows : KnowsNoMore ends.at.logged.event.clock (moment q).event.clock =
      knows-by_own q ends.at member here.0 later.0 here.1 later.1 (ends.begun moment is) in
      is.together p q within ends.place (λ e. ends.other (sym e))
      (rw same (over-later taken (watch_at watched p).lasting state.logged.event ends.at.logged.event (moment q).event knows
      ends.is_over))
    where
      knows-by_own : (q : ℕ) (one other : Taken) (i j : ℕ) → IsAt (name q) taken i one → IsAt (name q) taken j other
          → own one.logged.event ≤ own other.logged.event
          → KnowsNoMore one.logged.event.clock other.logged.event.clock
      knows-by_own q one other i j first second up_to = by_order (before_or j i)
        where
          by_order : (suc j ≤ i) ⊎ (i ≤ j) → KnowsNoMore one.logged.event.clock other.logged.event.clock
          by_order (inl below) =
              let before = before-at (name q) taken in_order j i other one (omega arith) second first in
              absurd (omega (arith, before.own_rises, up_to))
          by_order (inr behind) = knows-at (name q) taken in_order i j one other behind first second

  -- Without its first state, which is over.
  pub IsLeft-dropped : (p : ℕ) (one new : Left) (reason : StateOver) (state : Taken) → p < length watched
      → IsLeft watched taken p one → IsAt (name p) taken one.front state → EndsChance watched taken p state reason
      → DropsFirst one reason new → IsLeft watched taken p new
  IsLeft-dropped p one new reason state within left is ends drops = record {
    same = drops.host ∙ left.same;
    within = omega (arith, drops.front.within, length-same p one.host left.same);
    holds = λ next here. next-holds p one.host left.same (one.front + 1) new.front next drops.front here;
    each = rw (one_more, drops.over) (zip_push (EndsChance watched taken p)
        (filter (λ one. one.holds) (take one.front (of_host (name p) taken))) one.over state reason left.each ends);
    moments = λ moment is_moment.
        let old = left.moments moment is_moment in
        let behind : one.front + 1 ≤ old.0 =
        ⊎_elim (λ (x : suc one.front ≤ old.0). suc_one one.front old.0 x)
        (λ (back : old.0 ≤ one.front). absurd (at_front moment is_moment old.0 old.1 old.2 back))
        (before_or one.front old.0) in (
          old.0,
          next-up_to p one.host left.same (one.front + 1) new.front old.0 (moment p) drops.front behind old.2,
          old.2,
        );
  }
    where
      suc_one : (m n : ℕ) → suc m ≤ n → m + 1 ≤ n
      suc_one m n le = omega arith

      at_front : (moment : ℕ → Logged) → IsMoment watched taken moment → (k : ℕ) → one.front ≤ k
          → IsAt (name p) taken k (record { logged = moment p; holds = true }) → k ≤ one.front → ⊥
      at_front moment is_moment k up here down =
          let member : Taken = record { logged = moment p; holds = true } in
          let there : IsAt (name p) taken one.front member =
          subst (λ (n : ℕ). IsAt (name p) taken n member) (omega arith) here in
          let one_is : member ≡ state = same-at (name p) taken one.front member state there is in
          none-chance p state reason within ends moment is_moment (ap (λ (x : Taken). x.logged) one_is)

      one_more : filter (λ one. one.holds) (take new.front (of_host (name p) taken))
          ≡ filter (λ one. one.holds) (take one.front (of_host (name p) taken)) ++ state ∷ []
      one_more = none-between p one.host left.same (one.front + 1) new.front drops.front
          ∙ filter_more (λ one. one.holds) (of_host (name p) taken) one.front state is.within
          ∙ rw (is.is, left.holds state is) refl

-- All states of what is kept of the events.
pub AreLeft-all : (taken : List Taken) (hosts : List PastHost) (left : List Left) → KeepPast taken hosts
    → length left ≡ length hosts → ((p : ℕ) → p < length hosts → AreFirst (host_at hosts p) (left_at left p))
    → AreLeft (watched_in hosts) taken left
AreLeft-all taken hosts left keep many first = record {
  as_many = many ∙ sym (length-map hosts watch_past);
  each = λ p within.
      let in_hosts : p < length hosts = omega (arith, many) in
      let in_watched : p < length (watched_in hosts) = rw (length-map hosts watch_past) in_hosts in
      IsLeft-all (watched_in hosts) taken keep.in_order p (host_at hosts p) (left_at left p) in_watched
      (ap (λ (all : List PastHost). host_at all p) keep.kept
      ∙ get_or-map (past_host (watched_in hosts) taken) (watched_in hosts) p
      (record { host = []; lasting = While }) no_host in_watched) (first p in_hosts);
}

abbrev pub none_left : Left
none_left = record { host = no_host; front = 0; over = [] }

-- Where the first state of one host was dropped, for the reason that is told.
pub AreLeft-dropped : (watched : List HostWatch) (taken : List Taken) (left : List Left) (p q : ℕ) (reason : StateOver)
    (new : Left) → AreInOrder taken → AreLeft watched taken left → IsOverAt left p q → IsReason left p q reason
    → DropsFirst (left_at left p) reason new → AreLeft watched taken (set left p new)
AreLeft-dropped watched taken left p q reason new in_order are over is drops = record {
  as_many = length-set left p new ∙ are.as_many;
  each = λ r within.
      ⊎_elim (λ (here : r ≡ p). rw (here, get_or-set_same left p new none_left over.place) dropped)
      (λ (other : r ≢ p). rw (get_or-set_other left p r new none_left other)
      (are.each r (rw length-set at within))) (cases_eq r p);
}
  where
    dropped : IsLeft watched taken p new
    dropped =
        let p_in : p < length watched = rw (← are.as_many) over.place in
        let q_in : q < length watched = rw (← are.as_many) over.at in
        let one = are.each p over.place in
        let facts = over-facts (left_at left p) p (left_at left q) over.over in
        let front = front-below (left_at left p).host.lasting (left_at left p).front _ facts.end in
        let state = taken-at watched taken in_order p (left_at left p).host one.same (left_at left p).front front in
        IsLeft-dropped watched taken in_order p (left_at left p) new reason state.0 p_in one state.1
        (ends-chance watched taken in_order p q (left_at left p) (left_at left q) reason state.0 is.known p_in q_in
        over.other one (are.each q over.at) facts state.1 is.line is.at_place is.at_line is.is_last is.knows_up_to) drops
