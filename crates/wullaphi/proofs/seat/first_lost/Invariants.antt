use Rattle.std.proofs.Common.{◌≡◌, All, take}
use Rattle.std.specs.Prelude.{IsSome}
use Rattle.wullaphi.proofs.seat.first_lost.Given as goal

abbrev pub invariant-loop-end : goal.invariant-loop-end
invariant-loop-end g l =
    record {
      process : l.process ≡ l.end-index;
      before : All (λ end. IsSome end.probe) (take l.end-index l.ends);
    }
