-- The members of a pool, and what they leave.
use Rattle.std.specs.Prelude.{◌≡◌, ℕ, ◌*◌, Bool, true, false, Result, Ok, Err, List, ◌∷◌, length, All, IfOk}
use Rattle.wcp_model.specs.ProbeLog.{Call}
use Rattle.wcp_relay.specs.LiveProbe.{LiveFor, LiveSide}
use Rattle.example_pool.specs.Logs.{IsReplicaLog, IsDispatcherLog, most_unanswered, processes_of}
use Rattle.example_pool.specs.declared.dispatcher.Dispatcher.{Dispatcher}
use Rattle.example_pool.specs.declared.dispatcher.Pace.{Pace}
use Rattle.example_pool.specs.declared.member.PoolMember.{PoolMember}
use Rattle.example_pool.specs.declared.member.PoolMember.TheVariants as member
use Rattle.example_pool.specs.declared.member.Share.{Share}
use Rattle.example_pool.specs.declared.member.Stop.{Stop}
use Rattle.example_pool.specs.declared.member.Stop.TheVariants as stop

-- The part of a member: in each round a replica does a job, and the dispatcher has the answer of each replica.
abbrev pub jobs_of : PoolMember → ℕ
jobs_of (member.Dispatcher dispatcher) = dispatcher.rounds * length dispatcher.partners
jobs_of (member.Replica replica) = replica.rounds

-- The log of a member, one of n processes, that did its part; no job is left unanswered.
abbrev pub IsLogOfPart : ℕ → PoolMember → List Call → Type 0
IsLogOfPart n (member.Dispatcher dispatcher) =
    IsDispatcherLog n (most_unanswered dispatcher.pace (length dispatcher.partners))
    (dispatcher.rounds * length dispatcher.partners) 0
IsLogOfPart n (member.Replica replica) = IsReplicaLog n replica.rounds

-- A member did its part: its share counts it, and its probe stands for such a log.
pub record DidPart (one : PoolMember) (probe : LiveSide) (share : Share) : Type 0 where
  pub jobs : share.jobs ≡ jobs_of one
  pub log : List Call
  pub is_log : IsLogOfPart (processes_of probe) one log
  pub stands : LiveFor probe log

-- What a member leaves: it did its part, unless it stopped.
abbrev pub LeavesPart : PoolMember → LiveSide → Result Share Stop → Type 0
LeavesPart one probe done = IfOk done (DidPart one probe)

-- A member did its part, or stopped and was watched to its end, unless it vanished.
abbrev pub is_done : Result Share Stop → Bool
is_done (Ok share) = true
is_done (Err (stop.Refused refusal)) = true
is_done (Err stop.Gone) = true
is_done (Err stop.Vanished) = false

-- It is a replica, for so many rounds.
abbrev pub IsReplica : ℕ → PoolMember → Type 0
IsReplica rounds (member.Dispatcher dispatcher) = ⊥
IsReplica rounds (member.Replica replica) = replica.rounds ≡ rounds

-- The first of these members is the dispatcher, of this pace, and all others are replicas, its partners.
pub record IsPool (pace : Pace) (rounds : ℕ) (members : List PoolMember) : Type 0 where
  pub dispatcher : Dispatcher
  pub replicas : List PoolMember
  pub has_pace : dispatcher.pace ≡ pace
  pub has_rounds : dispatcher.rounds ≡ rounds
  pub partners : length dispatcher.partners ≡ length replicas
  pub all : members ≡ member.Dispatcher dispatcher ∷ replicas
  pub rest : All (IsReplica rounds) replicas
