-- What the numbers of a watch line say, one after the other.
use Rattle.std.specs.Prelude.{ℕ, ◌&&◌, true, nat_lt, List, [], ◌∷◌, None, Some, Result, Ok, if◌then◌else◌}
use Rattle.std.specs.FinSet as set
use Rattle.wcp_script.specs.declared.fault.FaultKind.{FaultKind}
use Rattle.wcp_script.specs.declared.watch_line.Named.{Named}
use Rattle.wcp_script.specs.Judgement.{◌>>=◌}
use Rattle.wcp_script.specs.Head.{is_after}

-- No number yet.
abbrev pub nobody : Named
nobody = record { last = None; rise = true; within = true; watched = set.empty }

-- One number more, of n processes.
abbrev pub with_number : ℕ → Named → ℕ → Named
with_number n named p = record {
  last = Some p;
  rise = named.rise && is_after named.last p;
  within = named.within && nat_lt p n;
  watched = if nat_lt p n then set.insert named.watched p else named.watched;
}

-- All numbers.
abbrev pub with_numbers : ℕ → Named → List ℕ → Named
with_numbers n named [] = named
with_numbers n named (p ∷ ps) = with_numbers n (with_number n named p) ps

abbrev pub named_by : ℕ → Named → Result (List ℕ) FaultKind → Result Named FaultKind
named_by n named numbers = numbers >>= λ ps. Ok (with_numbers n named ps)
