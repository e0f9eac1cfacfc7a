-- The sets of a lane's putters.
use Rattle.wcp_lane.proofs.Words.{◌≡◌, ℕ, ◌<◌, Bool, true, false, not, ◌&&◌, ◌||◌, List, length, get_or, take, arith}
use Rattle.wcp_lane.proofs.Words.{All, list_any, false_from_ne_true, get_or-take, get_or_read, length-take-le}
use Rattle.wcp_lane.proofs.Words.{list_any_none, AreApart, AreProcessNumbers, Numbers}
use Rattle.std.specs.FinSet as sets

-- whether a number is in one of these sets
abbrev pub any_has : ℕ → List Numbers → Bool
any_has p member_sets = list_any (λ (s : Numbers). sets.contains s p) member_sets

-- a number of one set is in none before it
pub none_before : (member_sets : List Numbers) (k : ℕ) (numbers : Numbers) → AreApart member_sets
    → k < length member_sets → numbers ≡ get_or member_sets k numbers
    → (p : ℕ) → sets.contains numbers p ≡ true → any_has p (take k member_sets) ≡ false
none_before member_sets k numbers apart inside is p member =
    let long = length-take-le k member_sets (omega arith) in
    list_any_none (λ (s : Numbers). sets.contains s p) (take k member_sets) (λ i d below.
    false_from_ne_true (sets.contains (get_or (take k member_sets) i d) p) (λ owned.
    apart i k d (omega arith) inside p
    (rw (← get_or-take k member_sets i d (omega arith)) owned)
    (rw (← get_or_read member_sets k numbers inside is d) member)))

pub within_read : (member_sets : List Numbers) (k : ℕ) (numbers : Numbers) → All AreProcessNumbers member_sets
    → k < length member_sets → numbers ≡ get_or member_sets k numbers → AreProcessNumbers numbers
within_read member_sets k numbers all inside is = rw is (all k numbers inside)

pub rest_of : (rest seen given : Bool) → rest ≡ not seen → (rest && not given) ≡ not (seen || given)
rest_of rest seen given e = grind arith
