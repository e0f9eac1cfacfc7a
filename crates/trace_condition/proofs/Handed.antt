-- A fault that a call answered and that is handed on.
use Rattle.std.proofs.Common.{◌≡◌, Result, Err, arith}
use Rattle.std.specs.Result.{IsErr, IsErrAnd}

pub handed_on : {X F : Type 0} (P : Result X F → Type 0) (r : Result X F) (fault : F)
    → IsErr r × IsErrAnd r (λ given. given ≡ fault) → P (Err fault) → P r
handed_on P r fault h p = grind arith
