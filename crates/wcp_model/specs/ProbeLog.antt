use Rattle.std.specs.Prelude.{◌≡◌, ◌==◌, ℕ, ◌+◌, ◌<◌, ◌↔◌, ◌||◌, not, Bool, true, false, IsTrue, List, [], ◌∷◌, ◌++◌}
use Rattle.std.specs.Prelude.{fold, filter, replicate, slice_get, slice_index, slice_set, Some, if◌then◌else◌}
use Rattle.std.specs.FinSet as set
use Rattle.wcp_clock.specs.Merge.{merged}
use Rattle.wcp_clock.specs.ProcessNumbers.{NumberSet}
use Rattle.wcp_clock.specs.declared.note.Note.{Note}
use Rattle.wcp_clock.specs.declared.note.Note.TheVariants as note
use Rattle.wcp_model.specs.declared.flag.Flag.{Flag}
use Rattle.wcp_model.specs.declared.flag.Flag.TheVariants as reset_at
use Rattle.wcp_model.specs.declared.probe_setup.ProbeSetup.{ProbeSetup}
use Rattle.wcp_model.specs.declared.step.Step.{Step}
use Rattle.wcp_model.specs.declared.step.Step.TheVariants as step
use Rattle.wcp_model.specs.Computation.{Computation, communications, interval_at, message_at}
use Rattle.wcp_model.specs.StateClock.{IsStateClock}
use Rattle.wcp_model.specs.Emission.{AreEmissions, is_closed}
use Rattle.wcp_model.specs.Flag.{IsFlagUp}

-- The accepted calls of one probe; a receive has the clock that its stamp carried.
pub data Call : Type 0 where
  Observed : (holds : Bool) → Call
  Sent : Call
  Received : (stamp : List ℕ) → Call
  Closed : Call

-- What a probe has come to: its clock, whether its flag is up, whether it is closed, and its emissions.
pub record ProbeState : Type 0 where
  pub clock : List ℕ
  pub flag_up : Bool
  pub closed : Bool
  pub snapshots : ℕ
  pub notes : List Note

-- A receive resets the flag, or leaves it up.
abbrev pub is_up_after_receive : Flag → Bool → Bool
is_up_after_receive reset_at.Event up = false
is_up_after_receive reset_at.Send up = up

-- A send counts an event; a receive counts one and takes the greater of each other component (Fidge 1988; Mattern
-- 1989). A true observation emits a snapshot where the flag isn't up, and puts it up; a send resets it, and so does a
-- receive but where sends alone do (Garg and Waldecker 1994). A process that isn't watched emits none.
abbrev pub after_call : ProbeSetup → ProbeState → Call → ProbeState
after_call made s (Observed false) = s
after_call made s (Observed true) =
    if not made.watched || s.flag_up then s
    else record s { flag_up = true; snapshots = s.snapshots + 1; notes = s.notes ++ note.Snap s.snapshots s.clock ∷ [] }
after_call made s Sent =
    record s { clock = slice_set s.clock made.process (slice_index s.clock made.process + 1); flag_up = false }
after_call made s (Received stamp) = record s {
  clock = slice_set (merged s.clock stamp) made.process (slice_index s.clock made.process + 1);
  flag_up = is_up_after_receive made.flag s.flag_up;
}
after_call made s Closed = record s { closed = true; notes = s.notes ++ note.Close s.snapshots ∷ [] }

-- What a probe is made with, as far as its log tells: how many processes there are, which one is its own, whether that
-- one is watched, and what resets its flag.
abbrev pub setup : ℕ → NumberSet → Flag → ℕ → ProbeSetup
setup n watched flag p =
    record { processes = n; process = p; watched = set.contains watched p; flag = flag }

-- The probe log: what a probe has come to after these calls.
abbrev pub state_of_log : ProbeSetup → List Call → ProbeState
state_of_log made log = fold (after_call made)
    (record { clock = replicate made.processes 0; flag_up = false; closed = false; snapshots = 0; notes = [] }) log

abbrev pub is_step_of : ℕ → Step → Bool
is_step_of p (step.Observe q holds) = q == p
is_step_of p (step.Send q to) = q == p
is_step_of p (step.Recv q message) = q == p
is_step_of p (step.Close q) = q == p
is_step_of p _ = false

-- The stamp of a message carries the clock of the sender's state after the send.
pub record IsStampOf (n : ℕ) (c : Computation) (message : ℕ) (stamp : List ℕ) : Type 0 where
  pub sent : ℕ
  pub from : ℕ
  pub to : ℕ
  pub send : slice_get c sent ≡ Some (step.Send from to)
  pub number : message_at c sent ≡ message
  pub clock : IsStateClock n c (record { process = from; interval = interval_at c from sent + 1 }) stamp

abbrev pub IsCallOf : ℕ → Computation → Step → Call → Type 0
IsCallOf n c (step.Observe p holds) (Observed seen) = holds ≡ seen
IsCallOf n c (step.Send p to) Sent = Unit {0}
IsCallOf n c (step.Recv p message) (Received stamp) = IsStampOf n c message stamp
IsCallOf n c (step.Close p) Closed = Unit {0}
IsCallOf n c _ _ = ⊥

abbrev pub AreCallsOf : ℕ → Computation → List Step → List Call → Type 0
AreCallsOf n c [] [] = Unit {0}
AreCallsOf n c (s ∷ steps) (call ∷ calls) = IsCallOf n c s call × AreCallsOf n c steps calls
AreCallsOf n c [] (call ∷ calls) = ⊥
AreCallsOf n c (s ∷ steps) [] = ⊥

-- The log of a process in a computation: a call for each of its steps, in order.
abbrev pub IsLogOf : ℕ → Computation → ℕ → List Call → Type 0
IsLogOf n c p log = AreCallsOf n c (filter (is_step_of p) c) log

-- What accepted steps keep: each receive stands after the send of its message, and nothing of a process after its
-- close.
pub record IsAccepted (c : Computation) : Type 0 where
  pub sent_first : (place p message : ℕ) → slice_get c place ≡ Some (step.Recv p message) → message < message_at c place
  pub close_last : (place later p : ℕ) (s : Step) → place < later →
      slice_get c place ≡ Some (step.Close p) → slice_get c later ≡ Some s → is_step_of p s ≡ false

-- The log law: the log of each process has the clock of its last state, and its emissions.
pub record HasClockAndEmissions (n : ℕ) (watched : NumberSet) (flag : Flag) (c : Computation) (p : ℕ) (s : ProbeState)
    : Type 0 where
  pub clock : IsStateClock n c (record { process = p; interval = communications c p }) s.clock
  pub flag_up : IsTrue s.flag_up ↔ IsFlagUp watched flag c (record { process = p; interval = communications c p })
  pub closed : s.closed ≡ is_closed c p
  pub emissions : AreEmissions n watched flag c p s.notes

abbrev pub LogLaw : Type 0
LogLaw =
    (n : ℕ) (watched : NumberSet) (flag : Flag) (c : Computation) (p : ℕ) (log : List Call) → IsAccepted c → p < n →
    IsLogOf n c p log →
    HasClockAndEmissions n watched flag c p (state_of_log (setup n watched flag p) log)
