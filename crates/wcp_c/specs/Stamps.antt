use Rattle.std.specs.Prelude.{◌≡◌, ◌==◌, ◌&&◌, ◌<◌, ◌≤◌, ℕ, Bool, Option, if◌then◌else◌, All, take, drop}
use Rattle.wcp_clock.specs.Limits.{most_processes}
use Rattle.wcp_probe.specs.Core.{Core}
use Rattle.wcp_probe.specs.Refusals.{receive_refusal, open_receive_refusal, is_own}
use Rattle.wcp_probe.specs.Seal.{Seal}
use Rattle.wcp_probe.specs.declared.probe.Refusal.{Refusal}
use Rattle.wcp_c.specs.declared.stamp.WcpStamp.{WcpStamp}

-- The first word of a stamp in a caller's memory.
abbrev pub stamp_magic : ℕ
stamp_magic = 1464030001

-- What the stamp says.
abbrev pub seal_of : WcpStamp → Seal
seal_of stamp = record {
  watch = stamp.watch;
  from = stamp.from;
  to = stamp.to;
  clock = take stamp.processes stamp.clock;
}

-- The memory holds a stamp, of a process of a watch that may be another one.
pub record HoldsStamp (stamp : WcpStamp) : Type 0 where
  pub magic : stamp.magic ≡ stamp_magic
  pub few : stamp.processes ≤ most_processes
  pub from : stamp.from < stamp.processes
  pub behind : All (λ count. count ≡ 0) (drop stamp.processes stamp.clock)

-- The number that an open stamp has for a receiver. It names no process: the message is for whichever takes it.
abbrev pub any_process : ℕ
any_process = 4294967295

abbrev pub is_open : WcpStamp → Bool
is_open stamp = stamp.to == any_process

-- The process of the probe takes back an open message of its own.
abbrev pub is_taken_back : Core → WcpStamp → Bool
is_taken_back core stamp = is_open stamp && is_own core (seal_of stamp)

-- Why a probe refuses to receive the message of this stamp.
abbrev pub refusal_of_stamp : Core → WcpStamp → Option Refusal
refusal_of_stamp core stamp =
    if is_open stamp then open_receive_refusal core (seal_of stamp) else receive_refusal core (seal_of stamp)
