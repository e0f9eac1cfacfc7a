-- Searches for a moment of any two hosts.
use Rattle.std.proofs.Common.{◌≡◌, ◌<◌, ℕ, List, [], ◌∷◌, length, refl, arith}
use Rattle.regex.specs.Patterns.{Re}
use Rattle.trace_log.specs.Log.{Logged}
use Rattle.trace_condition.specs.declared.rule.Rule.{Rule}
use Rattle.trace_condition.specs.Asked.{Text}
use Rattle.trace_pairs.specs.declared.pair_search.PairSearch.{PairSearch}
use Rattle.trace_pairs.specs.Searching.{AreHosts}

-- No host, no count.
pub no_names : (names : List Text) → length names ≡ 0 → names ≡ []
no_names [] is = refl
no_names (name ∷ names) is = absurd (omega (arith, is))

pub some_names : (names : List Text) (many : ℕ) → many ≡ length names → (many ≡ 0 → ⊥) → 0 < length names
some_names [] many is some = absurd (some is)
some_names (name ∷ names) many is some = omega arith

-- The hosts are what they were.
pub hosts_now : (rule : Rule Re) (logged : List Logged) (names : List Text) (search new : PairSearch)
    → new.hosts ≡ search.hosts → AreHosts rule logged names search.hosts.items → AreHosts rule logged names new.hosts.items
hosts_now rule logged names search new same are = rw same are
