-- Whether conditions must have held at once.
use Rattle.std.specs.Prelude.{◌≡◌, ◌↔◌, ℕ, suc, ◌+◌, ◌<◌, ◌≤◌, true, false, List}
use Rattle.trace_definitely.specs.Events.{Events, AreOrdered, IsOrderFrom, HoldsAlong, none_yet}

-- Along every order the conditions hold somewhere; along some order they do (Cooper and Marzullo 1991).
abbrev pub Definitely : Events → Type 0
Definitely events = (order : List ℕ) → IsOrderFrom events none_yet order → HoldsAlong events none_yet order

abbrev pub Possibly : Events → Type 0
Possibly events = (order : List ℕ) × IsOrderFrom events none_yet order × HoldsAlong events none_yet order

-- A run of a host: a longest row of its events from which its condition holds. It begins with the first of them, and is
-- over at the host's next event after them, if there is one.
pub record IsRun (events : Events) (p from until : ℕ) : Type 0 where
  pub some : from < until
  pub within : until ≤ events.count p
  pub holds : (k : ℕ) → from ≤ k → k < until → events.holds p k ≡ true
  pub begins : (k : ℕ) → suc k ≡ from → events.holds p k ≡ false
  pub ends : until < events.count p → events.holds p until ≡ false

-- A run of each host, and each begins before any other one is over (Garg and Waldecker 1996).
pub record AreOverlapping (events : Events) (from until : ℕ → ℕ) : Type 0 where
  pub runs : (p : ℕ) → p < events.hosts → IsRun events p (from p) (until p)
  pub meet : (p q : ℕ) → p < events.hosts → q < events.hosts → (p ≡ q → ⊥) → until q < events.count q →
      from p < events.knows q (until q) p

-- These begin no later than any other such runs.
abbrev pub AreLeast : Events → (ℕ → ℕ) → Type 0
AreLeast events from = (other until : ℕ → ℕ) → AreOverlapping events other until → (p : ℕ) → p < events.hosts →
    from p ≤ other p

-- There are such runs, and so there are the least ones.
abbrev pub HasLeast : Events → Type 0
HasLeast events = (from until : ℕ → ℕ) × AreOverlapping events from until × AreLeast events from

-- One event of each host, from which its condition holds, and of no two the state of the one is over where the other
-- begins (Garg and Waldecker 1994).
pub record IsMomentAmong (events : Events) (at : ℕ → ℕ) : Type 0 where
  pub within : (p : ℕ) → p < events.hosts → at p < events.count p
  pub holds : (p : ℕ) → p < events.hosts → events.holds p (at p) ≡ true
  pub not_over : (p q : ℕ) → p < events.hosts → q < events.hosts → (p ≡ q → ⊥) →
      events.knows p (at p) q ≤ at q + 1

-- The law: the conditions must have held at once exactly if there are such runs.
abbrev pub DefinitelyLaw : Type 0
DefinitelyLaw = (events : Events) → AreOrdered events →
    Definitely events ↔ ((from until : ℕ → ℕ) × AreOverlapping events from until)

-- Where there are such runs, there are least ones.
abbrev pub LeastRunsLaw : Type 0
LeastRunsLaw = (events : Events) → AreOrdered events → Definitely events → HasLeast events

-- The conditions could have held at once exactly if there is a moment.
abbrev pub PossiblyLaw : Type 0
PossiblyLaw = (events : Events) → AreOrdered events → Possibly events ↔ ((at : ℕ → ℕ) × IsMomentAmong events at)
