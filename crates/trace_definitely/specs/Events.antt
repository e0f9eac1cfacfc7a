-- The events of some hosts, and the orders in which they can have happened.
use Rattle.std.specs.Prelude.{◌≡◌, ◌==◌, ◌⊎◌, ℕ, ◌+◌, ◌-◌, ◌<◌, ◌≤◌, Bool, true, List, [], ◌∷◌, if◌then◌else◌}

-- The events of each host, in its order and numbered from 0.
pub record Events : Type 0 where
  pub hosts : ℕ
  -- How many events a host has.
  pub count : ℕ → ℕ
  -- Whether its condition holds from an event of it on, until its next one.
  pub holds : ℕ → ℕ → Bool
  -- Of how many events of another host, the last argument, an event knows: those that happened before it.
  pub knows : ℕ → ℕ → ℕ → ℕ

-- A host has an event of this number.
abbrev pub IsEvent : Events → ℕ → ℕ → Type 0
IsEvent events p k = (p < events.hosts) × (k < events.count p)

-- What an event knows is what happened before it, and itself: it knows all that those events know (Lamport 1978), and
-- none of them knows of it.
pub record AreOrdered (events : Events) : Type 0 where
  pub itself : (p k : ℕ) → IsEvent events p k → events.knows p k p ≡ k + 1
  pub within : (p k q : ℕ) → IsEvent events p k → q < events.hosts → events.knows p k q ≤ events.count q
  pub passes_on : (p k q j r : ℕ) → IsEvent events p k → q < events.hosts → r < events.hosts →
      j < events.knows p k q → events.knows q j r ≤ events.knows p k r
  pub not_back : (p k q j : ℕ) → IsEvent events p k → q < events.hosts → (p ≡ q → ⊥) → j < events.knows p k q →
      events.knows q j p ≤ k

-- How many events of each host have happened.
abbrev pub Cut : Type 0
Cut = ℕ → ℕ

abbrev pub none_yet : Cut
none_yet p = 0

-- One event more of a host has happened.
abbrev pub with_next : Cut → ℕ → Cut
with_next cut p q = if q == p then cut q + 1 else cut q

-- The next event of a host can happen: all that happened before it has.
pub record CanComeNext (events : Events) (cut : Cut) (p : ℕ) : Type 0 where
  pub host : p < events.hosts
  pub more : cut p < events.count p
  pub known : (q : ℕ) → q < events.hosts → (q ≡ p → ⊥) → events.knows p (cut p) q ≤ cut q

-- Events of these hosts happened one after another, from these on to the last ones, and none of them before one that
-- happened before it.
abbrev pub IsOrderFrom : Events → Cut → List ℕ → Type 0
IsOrderFrom events cut [] = (p : ℕ) → p < events.hosts → cut p ≡ events.count p
IsOrderFrom events cut (p ∷ order) = CanComeNext events cut p × IsOrderFrom events (with_next cut p) order

-- Each host has had an event, and from the last one on its condition holds.
abbrev pub AllHold : Events → Cut → Type 0
AllHold events cut = (p : ℕ) → p < events.hosts → (0 < cut p) × (events.holds p (cut p - 1) ≡ true)

-- All conditions hold somewhere along an order.
abbrev pub HoldsAlong : Events → Cut → List ℕ → Type 0
HoldsAlong events cut [] = AllHold events cut
HoldsAlong events cut (p ∷ order) = AllHold events cut ⊎ HoldsAlong events (with_next cut p) order
