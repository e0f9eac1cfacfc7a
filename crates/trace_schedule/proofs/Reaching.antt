-- How far the clocks of the events of an order reach.
use Rattle.std.proofs.Common.{◌≡◌, ℕ, ◌<◌, ◌≤◌, Bool, true, false, cond, max, List, [], ◌∷◌, ◌++◌, length, get_or, take}
use Rattle.std.proofs.Common.{arith, refl, ap, inl, inr}
use Rattle.std.proofs.lemmas.Bool.{cases_lt}
use Rattle.std.proofs.lemmas.List.{get_or_append_left, get_or_push, get_or-take, length-append, length-take-le}
use Rattle.std.proofs.lemmas.List.Quantifiers.{all_pairs_push}
use Rattle.std.specs.Borrow.{Bor}
use Rattle.std.specs.HashMap.{HashMap}
use Rattle.trace_log.specs.Clock.{number_of}
use Rattle.trace_log.specs.Kept.{number_kept}
use Rattle.trace_log.specs.Log.{Logged}
use Rattle.trace_moment.specs.Moment.{HappenedBefore, own}
use Rattle.trace_schedule.specs.Schedule.{Fits, IsCountedEarly}

-- An event of these counts so many of a host.
pub record Counts (order : List Logged) (host : List ℕ) (number : ℕ) : Type 0 where
  pub place : ℕ
  pub within : place < length order
  pub is : (d : Logged) → number_of host (get_or order place d).event.clock ≡ number

-- Each of these events counts of no host more than is kept, one of them that many, and they fit.
pub record HasReached {S : Type 0} (order : List Logged) (reached : HashMap (Bor (List ℕ)) ℕ S) : Type 0 where
  pub by : (host : List ℕ) → 0 < number_kept reached host → Counts order host (number_kept reached host)
  pub kept : (i : ℕ) (d : Logged) (host : List ℕ) → i < length order
      → number_of host (get_or order i d).event.clock ≤ number_kept reached host
  pub fits : Fits order

pub max-none : (n m : ℕ) → 0 ≡ m → n ≡ max n m
max-none n m none = rw (← none) (omega arith)

-- What one member more raises.
pub max-raised : (b : Bool) (number start counted : ℕ) → cond b (max number (max start counted)) (max start counted)
    ≡ max start (cond b (max number counted) counted)
max-raised true number start counted = omega arith
max-raised false number start counted = refl

pub HasReached-none : {S : Type 0} (reached : HashMap (Bor (List ℕ)) ℕ S)
    → ((host : List ℕ) → number_kept reached host ≡ 0) → HasReached [] reached
HasReached-none reached empty = record {
  by = λ host some. absurd (omega (arith, some, empty host));
  kept = λ i d host within. absurd (omega (arith, within));
  fits = λ i j d before within. absurd (omega (arith, within));
}

-- One event more, which none of these counts.
pub HasReached-more : {S T : Type 0} (order : List Logged) (one : Logged) (old : HashMap (Bor (List ℕ)) ℕ S)
    (new : HashMap (Bor (List ℕ)) ℕ T) → HasReached order old → number_kept old one.event.host < own one.event
    → ((host : List ℕ) → number_kept new host ≡ max (number_kept old host) (number_of host one.event.clock))
    → HasReached (order ++ one ∷ []) new
HasReached-more order one old new has above raised = record {
  by = λ host some. elim (cases_lt (number_kept old host) (number_of host one.event.clock)) [
    | inl more ↦ record {
      place = length order;
      within = omega (arith, length-append order (one ∷ []));
      is = λ d.
          let is = get_or_push order one d (length order) refl in
          let up = raised host in
          rw is (omega (arith, up, more));
    }
    | inr less ↦
        let up = raised host in
        let before = has.by host (omega (arith, up, some, less)) in
        record {
          place = before.place;
          within = omega (arith, length-append order (one ∷ []), before.within);
          is = λ d.
              let is = get_or_append_left order (one ∷ []) d before.place before.within in
              let at = before.is d in
              rw is (omega (arith, at, up, less));
        }
  ];
  kept = λ i d host within. elim (cases_lt i (length order)) [
    | inl before ↦
        let is = get_or_append_left order (one ∷ []) d i before in
        let bound = has.kept i d host before in
        let up = raised host in
        rw is (omega (arith, bound, up))
    | inr behind ↦
        let last : length order ≡ i = omega (arith, length-append order (one ∷ []), within, behind) in
        let is = get_or_push order one d i last in
        let up = raised host in
        rw is (omega (arith, up))
  ];
  fits = all_pairs_push (λ before later. HappenedBefore later.event before.event → ⊥) order one has.fits
      (λ k d within counted. omega (arith, above, counted, has.kept k d one.event.host within));
}

-- The next event, which one of these counts, or which doesn't count itself.
pub is-counted : {S : Type 0} (order : List Logged) (place : ℕ) (one : Logged) (reached : HashMap (Bor (List ℕ)) ℕ S)
    → place < length order → ((d : Logged) → get_or order place d ≡ one) → HasReached (take place order) reached
    → own one.event ≤ number_kept reached one.event.host → IsCountedEarly order place one.line
is-counted order place one reached within is has counted = record {
  within = within;
  event = one;
  is = is;
  at = refl;
  counts = elim (cases_lt 0 (own one.event)) [
    | inl some ↦
        let by = has.by one.event.host (omega (arith, some, counted)) in
        let before : by.place < place = omega (arith, by.within, length-take-le place order (omega (arith, within))) in
        inr (
          by.place,
          before,
          λ d.
              let same = ap (λ (it : Logged). number_of one.event.host it.event.clock)
              (get_or-take place order by.place d before) in
              let at = by.is d in
              omega (arith, same, at, counted),
        )
    | inr none ↦ inl (omega (arith, none))
  ];
}
