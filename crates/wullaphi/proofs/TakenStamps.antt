-- A probe that has taken a stamp has taken some stamp, or none; and one that has refused one has refused some stamp.
use Rattle.std.proofs.Common.{◌≡◌, Result, Ok, Err, None, Some, OnOk, inr}
use Rattle.std.specs.Prelude.{IfErr, OnErr, MatchResult}
use Rattle.wcp_probe.specs.declared.probe.Refusal.{Refusal}
use Rattle.wcp_probe.specs.Seal.{Seal}
use Rattle.wcp_relay.specs.LiveProbe.{LiveSide}
use Rattle.wullaphi.specs.WatchedLocks.{TakesNone, TakesSeal, TakesSome, take_refusal}

pub takes_some : {T E : Type 0} (result : Result T E) (seal : Seal) (old new : LiveSide)
    → OnOk result (TakesSeal seal old new) → OnOk result (TakesSome old new)
takes_some (Ok value) seal old new takes = inr (seal, takes)
takes_some (Err why) seal old new takes = takes

pub takes_none : {T : Type 0} (result : Result T Refusal) (seal : Seal) (old new : LiveSide)
    → MatchResult result (λ _. take_refusal old.core seal ≡ None) (λ why. take_refusal old.core seal ≡ Some why)
    → OnErr result (new ≡ old) → IfErr result (λ why. TakesNone why old new)
takes_none (Ok value) seal old new first same = same
takes_none (Err why) seal old new first same = (same, (seal, first))
