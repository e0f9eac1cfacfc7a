-- What a lock of a watched program does to the probe of whoever takes it and lets it go.
use Rattle.std.specs.Prelude.{◌≡◌, ◌≢◌, ◌⊎◌, false, true, if◌then◌else◌, IsTrue, Option, Some, None}
use Rattle.wcp_model.specs.ProbeLog.{Observed, Sent, Received}
use Rattle.wcp_probe.specs.declared.open_stamp.OpenStamped.{OpenStamped}
use Rattle.wcp_probe.specs.declared.probe.Refusal.{Refusal}
use Rattle.wcp_probe.specs.Core.{Core}
use Rattle.wcp_probe.specs.Known.{is_known}
use Rattle.wcp_probe.specs.Refusals.{open_receive_refusal, open_stamp_refusal}
use Rattle.wcp_probe.specs.Seal.{Seal, open_seal_of}
use Rattle.wcp_relay.specs.LiveProbe.{LiveAccepts, LiveSide}

-- A probe has taken the stamp with this seal: nothing has changed where it knew of that send, or where the send is its
-- own, and else it has received it.
abbrev pub TakesSeal : Seal → LiveSide → LiveSide → Type 0
TakesSeal seal old new = (IsTrue (is_known old.core seal) → new ≡ old) × (seal.from ≡ old.core.id → new ≡ old)
    × (is_known old.core seal ≡ false → seal.from ≢ old.core.id → LiveAccepts old (Received seal.clock) new)

-- The same of the stamp that was left, if one was.
abbrev pub TakesLast : Option (OpenStamped (Unit {0})) → LiveSide → LiveSide → Type 0
TakesLast None old new = new ≡ old
TakesLast (Some stamp) old new = TakesSeal (open_seal_of stamp) old new

-- A probe observes again that its condition holds, if that lasts.
abbrev pub HoldsOn : LiveSide → LiveSide → Type 0
HoldsOn old new = (new ≡ old) ⊎ LiveAccepts old (Observed true) new

-- A probe has taken the stamp that was left, if one was, and observes again if its condition lasts.
abbrev pub TakesAndHolds : Option (OpenStamped (Unit {0})) → LiveSide → LiveSide → Type 0
TakesAndHolds last old new = (middle : LiveSide) × TakesLast last old middle × HoldsOn middle new

-- A probe has taken some stamp, or none.
abbrev pub TakesSome : LiveSide → LiveSide → Type 0
TakesSome old new = (new ≡ old) ⊎ ((seal : Seal) × TakesSeal seal old new)

-- The same, and it observes again if its condition lasts.
abbrev pub MayTake : LiveSide → LiveSide → Type 0
MayTake old new = (middle : LiveSide) × TakesSome old middle × HoldsOn middle new

-- A probe has taken some stamp, or none, and has then left one.
abbrev pub TakesAndSends : LiveSide → LiveSide → Type 0
TakesAndSends old new = (middle : LiveSide) × TakesSome old middle × LiveAccepts middle Sent new

-- The same, and it observes again if its condition lasts.
abbrev pub TakesAndLeaves : LiveSide → LiveSide → Type 0
TakesAndLeaves old new = (middle : LiveSide) × TakesAndSends old middle × HoldsOn middle new

-- A probe has left a stamp, and observes again if its condition lasts.
abbrev pub Leaves : LiveSide → LiveSide → Type 0
Leaves old new = (middle : LiveSide) × LiveAccepts old Sent middle × HoldsOn middle new

-- A probe has left a stamp, and has then taken this one.
abbrev pub LeavesAndTakes : Option (OpenStamped (Unit {0})) → LiveSide → LiveSide → Type 0
LeavesAndTakes last old new = (middle : LiveSide) × Leaves old middle × TakesAndHolds last middle new

-- A probe has taken the stamp that was left, and has then done this.
abbrev pub Works : (LiveSide → LiveSide → Type 0) → LiveSide → LiveSide → Type 0
Works does old new = (last : Option (OpenStamped (Unit {0}))) × (middle : LiveSide) × TakesAndHolds last old middle
    × does middle new

-- A probe has done this between the stamp that it took and the one that it left.
abbrev pub Within : (LiveSide → LiveSide → Type 0) → LiveSide → LiveSide → Type 0
Within does old new = (middle : LiveSide) × Works does old middle × Leaves middle new

-- A probe has left a stamp, or has done nothing.
abbrev pub MayLeave : LiveSide → LiveSide → Type 0
MayLeave old new = (new ≡ old) ⊎ Leaves old new

-- The stamp that is left is that of the last event of this probe.
abbrev pub IsLeft : Option (OpenStamped (Unit {0})) → Core → Type 0
IsLeft None core = ⊥
IsLeft (Some stamp) core = ((open_seal_of stamp).from ≡ core.id) × ((open_seal_of stamp).clock ≡ core.clock)

-- Why a probe refuses to take the stamp with this seal: for no reason where it knows of that send.
abbrev pub take_refusal : Core → Seal → Option Refusal
take_refusal core seal = if is_known core seal then None else open_receive_refusal core seal

-- The same of the stamp that was left, if one was.
abbrev pub last_refusal : Option (OpenStamped (Unit {0})) → Core → Option Refusal
last_refusal None core = None
last_refusal (Some stamp) core = take_refusal core (open_seal_of stamp)

-- A probe refuses to take some stamp, for this reason.
abbrev pub RefusesSome : Core → Refusal → Type 0
RefusesSome core why = (seal : Seal) × (take_refusal core seal ≡ Some why)

-- A probe has refused to take some stamp, for this reason, and has done nothing.
abbrev pub TakesNone : Refusal → LiveSide → LiveSide → Type 0
TakesNone why old new = (new ≡ old) × RefusesSome old.core why

-- A probe has refused to leave a stamp, for this reason, and has done nothing.
abbrev pub LeavesNone : Refusal → LiveSide → LiveSide → Type 0
LeavesNone why old new = (new ≡ old) × (open_stamp_refusal old.core ≡ Some why)

-- A probe has refused to take some stamp; or it has taken some stamp, or none, and has refused to leave one.
abbrev pub TakesOrLeavesNone : Refusal → LiveSide → LiveSide → Type 0
TakesOrLeavesNone why old new = TakesNone why old new ⊎ (TakesSome old new × (open_stamp_refusal new.core ≡ Some why))

-- A probe has refused to leave a stamp; or it has left one, and has then refused to take some stamp.
abbrev pub LeavesOrTakesNone : Refusal → LiveSide → LiveSide → Type 0
LeavesOrTakesNone why old new = LeavesNone why old new ⊎ (Leaves old new × RefusesSome new.core why)

-- A probe has taken the stamp that was left, has done this, and has then refused to leave a stamp, for this reason.
abbrev pub WorksAndLeavesNone : (LiveSide → LiveSide → Type 0) → Refusal → LiveSide → LiveSide → Type 0
WorksAndLeavesNone does why old new = Works does old new × (open_stamp_refusal new.core ≡ Some why)
