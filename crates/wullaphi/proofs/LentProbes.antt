-- A probe that is lent makes a call, and stays the one that is lent.
use Rattle.std.proofs.Common.{◌≡◌, ◌+◌, ℕ, Bool, true, false, Option, Some, None, Result, Ok, Err, OnOk, IfErr, refl}
use Rattle.std.proofs.Common.{sym, ap, subst, ◌∙◌}
use Rattle.std.specs.Prelude.{if◌then◌else◌, OnErr, IfOk, IsTrue}
use Rattle.wcp_clock.specs.declared.note.Note.TheVariants as note
use Rattle.wcp_model.specs.declared.probe_setup.ProbeSetup.{ProbeSetup}
use Rattle.wcp_model.specs.ProbeLog.{Call}
use Rattle.wcp_probe.specs.Core.{Core, IsSameProbe}
use Rattle.wcp_ring.specs.Ends.{Ring}
use Rattle.wcp_relay.specs.LiveProbe.{LiveAccepts, LiveSide}
use Rattle.wcp_relay.proofs.LiveProbes.{HasLog-accepts}
use Rattle.wullaphi.specs.Lent.{IsLent}

-- an observation that is put leaves a probe of the same numbers
pub observed : (emits : Bool) (core : Core)
    → IsSameProbe core (record (if emits then record core {
      flag_up = true;
      emitted = core.emitted + 1;
      pending = Some (note.Snap core.emitted core.clock);
    } else core) { pending = None })
observed true core = record { watch = refl; limit = refl; made = refl }
observed false core = record { watch = refl; limit = refl; made = refl }

module _ {watch : ℕ} {made : ProbeSetup} {ring : Option Ring} {old new : LiveSide} (lent : IsLent watch made ring old)
    (call : Call) where
  pub still_lent : LiveAccepts old call new → IsSameProbe old.core new.core → new.link.ring ≡ old.link.ring
      → new.core.pending ≡ None
      → IsLent watch made ring new
  still_lent accepts same link put = record {
    of_watch = same.watch ∙ lent.of_watch;
    of_process = same.made ∙ lent.of_process;
    of_ring = ap Some link ∙ lent.of_ring;
    put = put;
    some_log = HasLog-accepts old new call lent.some_log accepts;
  }

  -- a send or a receive, that is accepted or refused
  pub called : {T E : Type 0} (IsBack : E → Type 0) (result : Result T E) → OnOk result (LiveAccepts old call new)
      → OnOk result (IsSameProbe old.core new.core)
      → OnOk result ((new.core.pending ≡ old.core.pending) × (new.link ≡ old.link))
      → IfErr result (λ back. IsBack back × (new ≡ old)) → IsLent watch made ring new
  called IsBack (Ok value) accepts same kept refused =
      still_lent accepts same (ap (λ link. link.ring) kept.1) (kept.0 ∙ lent.put)
  called IsBack (Err back) accepts same kept refused = subst (IsLent watch made ring) (sym refused.1) lent

  -- an open message that is taken, as its own or not, or refused
  pub taken : {E : Type 0} (result : Result Bool E)
      → IfOk result (λ counted. IsTrue counted → LiveAccepts old call new)
      → IfOk result (λ counted. counted ≡ false → new ≡ old)
      → OnOk result (IsSameProbe old.core new.core)
      → OnOk result ((new.core.pending ≡ old.core.pending) × (new.link ≡ old.link))
      → OnErr result (new ≡ old) → IsLent watch made ring new
  taken (Ok true) accepts own same kept refused =
      still_lent (accepts refl) same (ap (λ link. link.ring) kept.1) (kept.0 ∙ lent.put)
  taken (Ok false) accepts own same kept refused = subst (IsLent watch made ring) (sym (own refl)) lent
  taken (Err why) accepts own same kept refused = subst (IsLent watch made ring) (sym refused) lent
