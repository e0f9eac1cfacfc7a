use Rattle.std.specs.Prelude.{◌≡◌, ℕ, ◌<◌, true, false, IsTrue, is_some, Option, Some, None, MatchOption, Result}
use Rattle.std.specs.Prelude.{MatchResult, [], ◌∷◌, List, ◌++◌, length, map, slice_get}
use Rattle.std.specs.Option.{option_and_then, option_to_list}
use Rattle.wcp_clock.specs.Limits.{most_events}
use Rattle.wcp_clock.specs.ProcessNumbers.{NumberSet}
use Rattle.wcp_model.specs.declared.flag.Flag.{Flag}
use Rattle.wcp_clock.specs.declared.note.Note.{Note}
use Rattle.wcp_model.specs.declared.step.Step.{Step}
use Rattle.wcp_model.specs.declared.step.Step.TheVariants as step
use Rattle.wcp_model.specs.declared.step.Why.{Why}
use Rattle.wcp_model.specs.declared.step.Reply.{Reply}
use Rattle.wcp_model.specs.Computation.{Computation}
use Rattle.wcp_model.specs.Emission.{AreEmissions, is_closed, is_dropped}
use Rattle.wcp_model.specs.FirstReason.{first_reason}
use Rattle.wcp_model.specs.ProbeLog.{Call, setup, state_of_log, IsLogOf, IsStampOf, IsAccepted}
use Rattle.wcp_model.specs.Replies.{accepted_by, event_reasons, receivers, was_received}
use Rattle.wcp_model.specs.Report.{snapshot_clocks}
use Rattle.wcp_probe.specs.Core.{Core, StandsForLog, setup_of}
use Rattle.wcp_probe.specs.Seal.{seal_of}
use Rattle.wcp_probe.specs.declared.stamp.Stamped.{Stamped}
use Rattle.wcp_world.specs.declared.messages.Letter.{Letter}
use Rattle.wcp_world.specs.Answer.{IsAnswer}
use Rattle.wcp_world.specs.PutNotes.{put_more}

-- What the processes have: the probe of each, and the messages that were sent, by number.
pub record ProcessesState : Type 0 where
  pub probes : List Core
  pub letters : List Letter

-- The note that is pending at a process's probe.
abbrev pub pending_at : ProcessesState → ℕ → Option Note
pending_at app p = option_and_then (λ core. core.pending) (slice_get app.probes p)

-- A probe stands for the log of its process in a computation; the emissions of that log are those notes that were put,
-- followed by what is pending.
pub record IsProbeOf (n : ℕ) (watched : NumberSet) (flag : Flag) (c : Computation) (p : ℕ) (put : List Note)
    (core : Core) : Type 0 where
  pub log : List Call
  pub is_log : IsLogOf n c p log
  pub stands : StandsForLog core log
  pub watch : core.watch ≡ 0
  pub limit : core.limit ≡ most_events
  pub made : setup_of core ≡ setup n watched flag p
  pub notes : (state_of_log (setup n watched flag p) log).notes ≡ put ++ option_to_list core.pending

-- The probe of a lost process accepts nothing more, and has nothing pending: of the emissions of its log those were
-- put, and the rest is gone.
pub record IsLostProbeOf (n : ℕ) (watched : NumberSet) (flag : Flag) (c : Computation) (p : ℕ) (put : List Note)
    (core : Core) : Type 0 where
  pub log : List Call
  pub is_log : IsLogOf n c p log
  pub emitted : core.emitted ≡ (state_of_log (setup n watched flag p) log).snapshots
  pub made : setup_of core ≡ setup n watched flag p
  pub closed : core.closed ≡ true
  pub nothing : core.pending ≡ None
  pub without_close : is_closed c p ≡ false
  pub rest : List Note
  pub notes : (state_of_log (setup n watched flag p) log).notes ≡ put ++ rest

-- A message that was sent: it is still there, with the clock of its sender behind the send, or it was received.
abbrev pub IsLetterOf : ℕ → Computation → ℕ → Letter → Type 0
IsLetterOf n c message letter = MatchOption letter.message (IsTrue (was_received c message)) (IsSent n c message letter)
  where
    IsSent : ℕ → Computation → ℕ → Letter → Stamped (Unit {0}) → Type 0
    IsSent n c message letter sent =
        (was_received c message ≡ false) × ((seal_of sent).watch ≡ 0) × ((seal_of sent).to ≡ letter.to)
        × IsStampOf n c message (seal_of sent).clock

-- The letters of a computation: one for each message that was sent, addressed to its receiver.
pub record AreLettersOf (n : ℕ) (c : Computation) (letters : List Letter) : Type 0 where
  pub receivers_are : map (λ letter. letter.to) letters ≡ receivers c
  pub each : (message : ℕ) (letter : Letter) → slice_get letters message ≡ Some letter →
      IsLetterOf n c message letter

-- n processes stand for their computation, and for the notes of each that were put on its link.
pub record AreProcessesOf (n : ℕ) (watched : NumberSet) (flag : Flag) (c : Computation) (put : ℕ → List Note)
    (app : ProcessesState) : Type 0 where
  pub order : IsAccepted c
  pub members : length app.probes ≡ n
  pub probes : (p : ℕ) (core : Core) → slice_get app.probes p ≡ Some core → is_dropped c p ≡ false →
      IsProbeOf n watched flag c p (put p) core
  pub lost : (p : ℕ) (core : Core) → slice_get app.probes p ≡ Some core → is_dropped c p ≡ true →
      IsLostProbeOf n watched flag c p (put p) core
  pub lost_known : (p : ℕ) → is_dropped c p ≡ true → p < n
  pub letters : AreLettersOf n c app.letters

-- An event was answered: whatever computation the processes stood for, the answer is that of the definitions, and the
-- processes now stand for that computation with the event, where it was accepted, at its end.
abbrev pub Performs : ProcessesState → Step → Reply → ProcessesState → Type 0
Performs old s answer new = (n : ℕ) (watched : NumberSet) (flag : Flag) (c : Computation) (put : ℕ → List Note) →
    AreProcessesOf n watched flag c put old →
    IsAnswer (event_reasons n c (λ p. is_some (pending_at old p)) s) answer
    × AreProcessesOf n watched flag (c ++ accepted_by s answer) put new

-- The pending note of a process was put.
abbrev pub WasPut : ProcessesState → ℕ → ProcessesState → Type 0
WasPut old p new = (n : ℕ) (watched : NumberSet) (flag : Flag) (c : Computation) (put : ℕ → List Note) (note : Note) →
    AreProcessesOf n watched flag c put old → pending_at old p ≡ Some note →
    AreProcessesOf n watched flag c (put_more put p note) new

-- A process was lost, where nothing refuses it, and so many of its notes were put.
abbrev pub Loses : ProcessesState → ℕ → Result ℕ Why → ProcessesState → Type 0
Loses old p result new = (n : ℕ) (watched : NumberSet) (flag : Flag) (c : Computation) (put : ℕ → List Note) →
    AreProcessesOf n watched flag c put old →
    MatchResult result
    (λ count. (first_reason (event_reasons n c (λ q. is_some (pending_at old q)) (step.Dropped p)) ≡ None)
    × (count ≡ length (put p)) × AreProcessesOf n watched flag (c ++ step.Dropped p ∷ []) put new)
    (λ why. first_reason (event_reasons n c (λ q. is_some (pending_at old q)) (step.Dropped p)) ≡ Some why)

-- A process has emitted so many snapshots.
abbrev pub CountsEmissions : ProcessesState → ℕ → ℕ → Type 0
CountsEmissions app p count = (n : ℕ) (watched : NumberSet) (flag : Flag) (c : Computation) (put : ℕ → List Note) →
    AreProcessesOf n watched flag c put app →
    (notes : List Note) × AreEmissions n watched flag c p notes × (count ≡ length (snapshot_clocks notes))
