-- Live probes that are fresh, and that stay the same.
use Rattle.wcp_relay.proofs.Words.{ProbeSetup, ◌≡◌, ℕ, ◌<◌, None, List, [], ◌∷◌, ◌++◌, length, replicate, refl, sym, ap}
use Rattle.wcp_relay.proofs.Words.{subst, ◌∙◌, append-nil, arith, Result, Ok, Err, OnOk, OnErr, length-replicate, Note}
use Rattle.wcp_relay.proofs.Words.{Item, Call, AreRising, clocks_taken, notes_taken, snapshot_clocks-append, HasLog}
use Rattle.wcp_relay.proofs.Words.{IsSameLive, LiveAccepts, LiveFor, LiveSide, NotesRise, emitted_by, fresh_core}
use Rattle.wcp_probe.specs.Core.{setup_of}
use Rattle.std.specs.Prelude.{Bool, true, false, IsTrue, IfOk}
use Rattle.std.proofs.Math.Logic.{∥∥₁_map, ∥∥₁_elim}
use Rattle.std.proofs.Props.{props}
use Rattle.wcp_clock.specs.declared.note.Note.TheVariants as note
use Rattle.wcp_relay.proofs.RisingLogs.{log_clocks_rise}

-- before any call, a probe stands for no calls
pub fresh_stands : (watch : ℕ) (made : ProbeSetup) (probe : LiveSide) → probe.core ≡ fresh_core watch made
    → probe.link.put ≡ [] → LiveFor probe []
fresh_stands watch made probe fresh empty = rw fresh (record {
  core = record {
    clock = ap (λ k. replicate k 0) (sym (length-replicate made.processes 0));
    flag_up = refl;
    closed = refl;
    emitted = refl;
    pending = tt;
  };
  emissions = ap (λ put. put ++ []) empty;
})

-- a probe that stays the same, twice
pub same_live : (start middle last : LiveSide) → IsSameLive start middle → IsSameLive middle last
    → IsSameLive start last
same_live start middle last first then = (record { watch = cc; limit = cc; made = then.0.made ∙ first.0.made }, cc)

-- a live probe that accepts a call stands for one more
pub HasLog-accepts : (old new : LiveSide) (call : Call) → HasLog old → LiveAccepts old call new → HasLog new
HasLog-accepts old new call logged accepts = ∥∥₁_map logged (λ x. (x.0 ++ call ∷ [], accepts x.0 x.1))

-- one that has emitted the same stands for the same
pub HasLog-stays : (old new : LiveSide) → HasLog old → ((log : List Call) → LiveFor old log → LiveFor new log)
    → HasLog new
HasLog-stays old new logged stands = ∥∥₁_map logged (λ x. (x.0, stands x.0 x.1))

-- one that answers a call either accepts it, or stays as it was
pub HasLog-answers : {T E : Type 0} (result : Result T E) (old new : LiveSide) (call : Call) → HasLog old
    → OnOk result (LiveAccepts old call new) → OnErr result (new.core ≡ old.core) → new.link ≡ old.link → HasLog new
HasLog-answers (Ok value) old new call logged accepts same link = HasLog-accepts old new call logged accepts
HasLog-answers (Err error) old new call logged accepts same link =
    HasLog-stays old new logged (λ log stands. grind (arith, stands))

-- one that takes an open message accepts it, or stays as it was, since that is its own or is refused
pub HasLog-takes : {E : Type 0} (result : Result Bool E) (old new : LiveSide) (call : Call) → HasLog old
    → IfOk result (λ counted. IsTrue counted → LiveAccepts old call new)
    → IfOk result (λ counted. counted ≡ false → new ≡ old) → OnErr result (new ≡ old) → HasLog new
HasLog-takes (Ok true) old new call logged accepts own refused = HasLog-accepts old new call logged (accepts refl)
HasLog-takes (Ok false) old new call logged accepts own refused = subst HasLog (sym (own refl)) logged
HasLog-takes (Err why) old new call logged accepts own refused = subst HasLog (sym refused) logged

NotesRise-prop : (p : ℕ) (notes : List Note) → IsProp (NotesRise p notes)
NotesRise-prop p notes = hlevel props

-- the clocks of what a live probe emitted rise
pub emissions_rise : (probe : LiveSide) → probe.core.id < length probe.core.clock → HasLog probe
    → NotesRise probe.core.id (emitted_by probe)
emissions_rise probe within logged = ∥∥₁_elim logged (NotesRise-prop probe.core.id (emitted_by probe)) (λ x.
    subst (NotesRise probe.core.id) (sym x.1.emissions)
    (log_clocks_rise (setup_of probe.core) x.0 within (ap length (sym x.1.core.clock))))

-- and stay so with the close mark behind
pub closed_rises : (probe : LiveSide) (put : List Note) (count : ℕ) → probe.core.id < length probe.core.clock → HasLog
    probe → probe.core.pending ≡ None → put ≡ probe.link.put ++ note.Close count ∷ [] → NotesRise probe.core.id put
closed_rises probe put count within logged none is =
    subst (AreRising probe.core.id) (grind (arith, append-nil, snapshot_clocks-append))
    (emissions_rise probe within logged)

-- so where all that a closed probe put was taken, the clocks taken of its process rise
pub taken_rise : (p : ℕ) (put : List Note) (items : List Item) → NotesRise p put → notes_taken p items ≡ put
    → AreRising p (clocks_taken p items)
taken_rise p put items rising same = subst (NotesRise p) (sym same) rising
