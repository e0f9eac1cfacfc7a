-- A probe that is lent to its process, and what has become of it once the process has run.
use Rattle.std.specs.Prelude.{◌≡◌, ℕ, Option, Some, None, List, [], ◌∷◌, ◌++◌}
use Rattle.wcp_clock.specs.declared.note.Note.{Note}
use Rattle.wcp_model.specs.declared.probe_setup.ProbeSetup.{ProbeSetup}
use Rattle.wcp_model.specs.ProbeLog.{Call, Closed, state_of_log}
use Rattle.wcp_probe.specs.Core.{setup_of}
use Rattle.wcp_ring.specs.Ends.{Ring}
use Rattle.wcp_relay.specs.LiveProbe.{HasLog, LiveFor, LiveSide}

-- A probe is the one of this watch, of this process and of this ring, whatever calls it has made; nothing is pending.
pub record IsLent (watch : ℕ) (made : ProbeSetup) (ring : Option Ring) (probe : LiveSide) : Type 0 where
  pub of_watch : probe.core.watch ≡ watch
  pub of_process : setup_of probe.core ≡ made
  pub of_ring : Some probe.link.ring ≡ ring
  pub put : probe.core.pending ≡ None
  pub some_log : HasLog probe

-- A process has run in this watch, and these are all notes of its probe: as it answered, its probe stood for a log, and
-- the notes are the emissions of that log and of the close.
pub record HasRun {P A : Type 0} (Leaves : P → LiveSide → A → Type 0) (watch : ℕ) (made : ProbeSetup)
    (process : P) (answer : A) (notes : List Note) : Type 0 where
  pub probe : LiveSide
  pub of_watch : probe.core.watch ≡ watch
  pub of_process : setup_of probe.core ≡ made
  pub leaves : Leaves process probe answer
  pub some_log : HasLog probe
  pub emitted : (log : List Call) → LiveFor probe log → notes ≡ (state_of_log made (log ++ Closed ∷ [])).notes

-- A process has run in this watch, whatever became of its probe, which stood for a log as the process answered.
pub record HasLeft {P A : Type 0} (Leaves : P → LiveSide → A → Type 0) (watch : ℕ) (made : ProbeSetup)
    (process : P) (answer : A) : Type 0 where
  pub probe : LiveSide
  pub of_watch : probe.core.watch ≡ watch
  pub of_process : setup_of probe.core ≡ made
  pub leaves : Leaves process probe answer
  pub some_log : HasLog probe
