use Rattle.wcp_cli.proofs.Imports.{◌≡◌, ℕ, refl, sym, true≢false, IsErr, Result, Ok, Err, Keeps, Request, Single, Run}
use Rattle.wcp_cli.proofs.Imports.{Replay, Help, Known, Reads, status_after, IsSameRequest}
use Rattle.wcp_cli.specs.declared.fault.Fault.{Fault}

-- where nothing is read, no request has read too much
pub reads_nothing : (request : Request) (old new : Known) → Keeps old new → Reads request old new
reads_nothing Single old new kept = tt
reads_nothing Run old new kept = tt
reads_nothing Replay old new kept = tt
reads_nothing _ old new kept = kept

-- each request is the one that was asked for, where it was
pub same_request : (request : Request) → IsSameRequest request request
same_request (Help text) = tt
same_request _ = refl

-- a fault is followed by status 2
pub status_after_err : (r : Result ℕ Fault) → IsErr r → status_after r ≡ 2
status_after_err (Ok status) bad = absurd (true≢false (sym bad))
status_after_err (Err fault) is = refl
