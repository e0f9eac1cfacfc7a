use Rattle.std.specs.Prelude.{◌≡◌, ◌==◌, ◌-◌, ◌<◌, ◌≤◌, ℕ, false, Option, Some, None, if◌then◌else◌, All, List, []}
use Rattle.std.specs.Prelude.{replicate, take, drop}
use Rattle.wcp_clock.specs.Limits.{most_processes, most_events}
use Rattle.wcp_clock.specs.declared.note.Note.{Note}
use Rattle.wcp_clock.specs.declared.note.Note.TheVariants.{Snap, Close}
use Rattle.wcp_model.specs.declared.flag.Flag.{Flag}
use Rattle.wcp_model.specs.declared.flag.Flag.TheVariants.{Event, Send}
use Rattle.wcp_model.specs.declared.probe_setup.ProbeSetup.{ProbeSetup}
use Rattle.wcp_probe.specs.Core.{Core, IsProbe, StandsForLog}
use Rattle.wcp_c.specs.declared.probe.WcpProbe.{WcpProbe}

-- The first word of a probe in a caller's memory.
abbrev pub probe_magic : ℕ
probe_magic = 1464029233

-- What resets the flag: 0 says each event, 1 each send.
abbrev pub flag_of : ℕ → Flag
flag_of number = if number == 0 then Event else Send

-- What is pending, by its kind: 0 says nothing, 1 the last snapshot that was emitted, and 2 the close mark. A snapshot
-- has the clock that the probe still has.
abbrev pub pending_of : ℕ → ℕ → List ℕ → Option Note
pending_of kind emitted clock =
    if kind == 0 then None else if kind == 1 then Some (Snap (emitted - 1) clock) else Some (Close emitted)

-- The probe that the memory stands for.
abbrev pub core_of : WcpProbe → Core
core_of probe = record {
  watch = probe.watch;
  id = probe.process;
  watched = probe.watched == 1;
  flag = flag_of probe.flag;
  limit = most_events;
  clock = take probe.processes probe.clock;
  flag_up = probe.flag_up == 1;
  closed = probe.closed == 1;
  emitted = probe.emitted;
  pending = pending_of probe.pending probe.emitted (take probe.processes probe.clock);
}

-- The memory is laid out as a probe's is: its first word says so, each number that stands for a choice is one of that
-- choice, and what no part of the probe is kept in is 0.
pub record IsLaidOut (probe : WcpProbe) : Type 0 where
  pub magic : probe.magic ≡ probe_magic
  pub some : 0 < probe.processes
  pub few : probe.processes ≤ most_processes
  pub watched : probe.watched ≤ 1
  pub flag : probe.flag ≤ 1
  pub flag_up : probe.flag_up ≤ 1
  pub closed : probe.closed ≤ 1
  pub pending : probe.pending ≤ 2
  pub emitted : probe.pending ≡ 1 → 0 < probe.emitted
  pub reserved : probe.reserved ≡ 0
  pub behind : All (λ count. count ≡ 0) (drop probe.processes probe.clock)

-- The memory holds a probe.
pub record HoldsProbe (probe : WcpProbe) : Type 0 where
  pub laid_out : IsLaidOut probe
  pub core : IsProbe (core_of probe)

-- What a probe is made with: the number of its watch, and the rest.
pub record Making : Type 0 where
  pub watch : ℕ
  pub made : ProbeSetup

-- The memory holds a probe that was made with this, and has accepted no call.
pub record IsFreshProbe (probe : WcpProbe) (making : Making) : Type 0 where
  pub held : HoldsProbe probe
  pub core : core_of probe ≡ record {
    watch = making.watch;
    id = making.made.process;
    watched = making.made.watched;
    flag = making.made.flag;
    limit = most_events;
    clock = replicate making.made.processes 0;
    flag_up = false;
    closed = false;
    emitted = 0;
    pending = None;
  }
  pub empty : StandsForLog (core_of probe) []
