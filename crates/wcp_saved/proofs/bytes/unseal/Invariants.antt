use Rattle.std.proofs.Common.{◌≡◌, ℕ, ◌<◌, ◌^◌, ◌++◌, List, length, take, drop}
use Rattle.std.specs.Prelude.{All}
use Rattle.wcp_saved.specs.Spelling.{bytes_of}
use Rattle.wcp_saved.proofs.bytes.unseal.Given as goal

abbrev pub invariant-loop : goal.invariant-loop
invariant-loop l = (spelled behind : List ℕ) → All (λ word. word < 2 ^ 64) spelled
    → l.bytes ≡ bytes_of spelled ++ behind → length behind < 8
    → (l.words.items ≡ take l.counter spelled) × (l.rest ≡ bytes_of (drop l.counter spelled) ++ behind)
