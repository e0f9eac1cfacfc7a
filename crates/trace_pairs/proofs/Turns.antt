-- One search of a host takes its event.
use Rattle.std.proofs.lemmas.Grind.{common_steps}
use Rattle.std.proofs.lemmas.Bool.Decides.{eqb_tells}
use Rattle.std.proofs.lemmas.Bool.{le-ltb, lt-ltb}
use Rattle.trace_pairs.proofs.Words.{◌≡◌, ◌≢◌, ◌∙◌, ℕ, ◌+◌, ◌<◌, ◌≤◌, Bool, true, false, List, [], ◌∷◌, ◌++◌, Result}
use Rattle.trace_pairs.proofs.Words.{Ok, Err}
use Rattle.trace_pairs.proofs.Words.{length, refl, sym, ap, subst, arith, inl, inr, ◌⊎◌, length-set, slice_index_or}
use Rattle.trace_pairs.proofs.Words.{◌||◌, bytes_eq, bytes_eq-Decides, Re, Logged, Search, Taken, watch_at, IsKnown}
use Rattle.trace_pairs.proofs.Words.{NoneIsKnown, Rule, Text}
use Rattle.std.specs.Prelude.{slice_set, IfOk, OnOk}
use Rattle.std.specs.declared.alloc.AllocError.{AllocError}
use Rattle.trace_moment.specs.Search.{HasTaken, is_known, watched_by}
use Rattle.trace_pairs.specs.declared.rows.PairRow.{PairRow}
use Rattle.trace_pairs.specs.declared.rows.HostPair.{HostPair}
use Rattle.trace_pairs.specs.Hosts.{host_at}
use Rattle.trace_pairs.specs.Taking.{judged_after, is_at_one, watches_of}
use Rattle.trace_pairs.specs.Pairs.{IsLower}
use Rattle.trace_pairs.specs.Rows.{AreRows, ComesAt, HadTurn, HasTurn, KnowsLowest, pair_at, StandAll, StandPartly}
use Rattle.trace_pairs.specs.Rows.{TakesAt, TakesOne, search_at}
use Rattle.trace_pairs.proofs.Turning.{at_pair, at_other, wide_set}
use Rattle.trace_pairs.proofs.Rounds.{goes_on, is_known_now}

-- The rows stay rows.
pub rows_set : (rows : List PairRow) (p q watched : ℕ) (next : Taken) (old row : PairRow) (known : Bool) → AreRows rows
    → p < q → q < length rows → ((r : PairRow) → old ≡ slice_index_or rows q r)
    → TakesAt p watched next old.searches.items row.searches.items known → AreRows (slice_set rows q row)
rows_set rows p q watched next old row known are up within old_is takes = record {
  wide = wide_set rows p q row takes.search within p_in set_is are.wide;
  two = λ p' q' r s up' within'. elim (eqb_tells q' q) [
    | inl q_is ↦ elim (eqb_tells p' p) [
      | inl p_is ↦ rw (
        q_is.1,
        p_is.1,
        at_pair rows p q row takes.search within p_in set_is r s,
        takes.same takes.search,
        old_is old,
      ) (are.two p q old takes.search up within)
      | inr p_not ↦ rw (at_other rows p q row takes.search within p_in set_is p' q' r s (λ _. p_not.1))
          (are.two p' q' r s up' (omega (arith, within', length-set rows q row)))
    ]
    | inr q_not ↦ rw (at_other rows p q row takes.search within p_in set_is p' q' r s (λ is. absurd (q_not.1 is)))
        (are.two p' q' r s up' (omega (arith, within', length-set rows q row)))
  ];
}
  where
    p_in : (r : PairRow) → p < length (slice_index_or rows q r).searches.items
    p_in r = omega (arith, up, are.wide q r within)

    set_is : (r : PairRow) → row.searches.items ≡ slice_set (slice_index_or rows q r).searches.items p takes.search
    set_is r = takes.set ∙ ap (λ (x : PairRow). slice_set x.searches.items p takes.search) (old_is r)

pub rows_stay : (rows : List PairRow) (p q watched : ℕ) (next : Taken) (old row : PairRow)
    (answer : Result Bool AllocError) → AreRows rows
    → p < q → q < length rows → ((r : PairRow) → old ≡ slice_index_or rows q r)
    → IfOk answer (λ known. TakesAt p watched next old.searches.items row.searches.items known)
    → OnOk answer (AreRows (slice_set rows q row))
rows_stay rows p q watched next old row (Err _) are up within old_is takes = tt
rows_stay rows p q watched next old row (Ok known) are up within old_is takes =
    rows_set rows p q watched next old row known are up within old_is takes

module _ (rule : Rule Re) (before : List Logged) (one : Logged) (holds : Bool) (hosts : List Text) (place other : ℕ)
    (rows : List PairRow) (partly : StandPartly rule before one hosts place other rows)
    (comes : ComesAt rule before one holds hosts place) (old row : PairRow) where
  at_place : bytes_eq one.event.host (host_at hosts place) ≡ true
  at_place = (bytes_eq-Decides one.event.host (host_at hosts place)).1 (sym comes.host)

  or_true : (b : Bool) → (b || true) ≡ true
  or_true true = refl
  or_true false = refl

  pub takes_lower : other < place → ((r : PairRow) → old ≡ slice_index_or rows place r)
      → (answer : Result Bool AllocError) → IfOk answer (λ known. TakesAt other 1
      (record { logged = one; holds = holds }) old.searches.items row.searches.items known)
      → TakesOne rule before one hosts place other (record { first = other; second = place }) answer
      (slice_set rows place row)
  takes_lower up old_is (Err _) takes = tt
  takes_lower up old_is (Ok false) takes = goes_on rule before one hosts place holds other rows partly comes other
      place 1
      up comes.within (inr (refl, omega arith)) (sym comes.host)
      (ap (λ b. bytes_eq one.event.host (host_at hosts other) || b) at_place ∙ or_true _) old row old_is false takes
      refl
      (λ p' q' up' turn apart.
      (λ is. omega (arith, is, up, up', turn.0 is), λ is. below p' (turn.1 is) (apart is)))
      (λ p' q' up' turn. elim turn [
        | inl is ↦ (inl (is.0, omega (arith, is.1)), λ q_is p_is. omega (arith, is.0, p_is, up))
        | inr is ↦ (inr (is.0, omega (arith, is.1)), λ q_is p_is. omega (arith, is.1, p_is))
      ])
    where
      below : (p' : ℕ) → p' < other + 1 → p' ≢ other → p' < other
      below p' less apart = omega (arith, less, apart)
  takes_lower up old_is (Ok true) takes = is_known_now rule before one hosts place holds other rows partly comes other
      place 1
      up comes.within (inr (refl, omega arith)) (sym comes.host)
      (ap (λ b. bytes_eq one.event.host (host_at hosts other) || b) at_place ∙ or_true _) old row old_is true takes refl
      (λ p' q' up' low. elim low [
        | inl less ↦ (λ is. omega (arith, is, less, up), λ is. less)
        | inr same ↦ (λ is. omega (arith, is, same.0, up), λ is. omega (arith, is, same.1))
      ])

  pub takes_higher : place < other → other < length hosts → ((r : PairRow) → old ≡ slice_index_or rows other r)
      → (answer : Result Bool AllocError) → IfOk answer (λ known. TakesAt place 0
      (record { logged = one; holds = holds }) old.searches.items row.searches.items known)
      → TakesOne rule before one hosts place other (record { first = place; second = other }) answer
      (slice_set rows other row)
  takes_higher up within old_is (Err _) takes = tt
  takes_higher up within old_is (Ok false) takes = goes_on rule before one hosts place holds other rows partly comes
      place
      other 0 up within (inl (refl, omega arith)) (sym comes.host)
      (ap (λ b. b || bytes_eq one.event.host (host_at hosts other)) at_place) old row old_is false takes refl
      (λ p' q' up' turn apart.
      (λ is. below q' (turn.0 is) (λ q_is. apart q_is is), λ is. omega (arith, turn.1 is, is, up', up)))
      (λ p' q' up' turn. elim turn [
        | inl is ↦ (inl (is.0, omega (arith, is.1)), λ q_is p_is. omega (arith, is.1, q_is))
        | inr is ↦ (inr (is.0, omega (arith, is.1)), λ q_is p_is. omega (arith, is.1, is.0, q_is, p_is, up))
      ])
    where
      below : (q' : ℕ) → q' < other + 1 → q' ≢ other → q' < other
      below q' less apart = omega (arith, less, apart)
  takes_higher up within old_is (Ok true) takes = is_known_now rule before one hosts place holds other rows partly comes
      place other 0 up within (inl (refl, omega arith)) (sym comes.host)
      (ap (λ b. b || bytes_eq one.event.host (host_at hosts other)) at_place) old row old_is true takes refl
      (λ p' q' up' low. elim low [
        | inl less ↦ (λ is. omega (arith, is, less), λ is. omega (arith, less, up))
        | inr same ↦ (λ is. same.1, λ is. omega (arith, is, same.0, up, up'))
      ])

pub pair_is_lower : (place other : ℕ) → other < place
    → pair_at place other ≡ record { first = other; second = place }
pair_is_lower place other up = rw (lt-ltb other place up) refl

pub pair_is_higher : (place other : ℕ) → place < other
    → pair_at place other ≡ record { first = place; second = other }
pair_is_higher place other up = rw (le-ltb other place (omega (arith, up))) refl
