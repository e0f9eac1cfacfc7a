-- What the members of a pool do, as the logs of their probes: which condition each observes, and when.
use Rattle.std.specs.Prelude.{◌≡◌, ℕ, ◌+◌, ◌<◌, true, nat_lt, List, [], ◌∷◌, ◌++◌, length}
use Rattle.wcp_model.specs.ProbeLog.{Call, Observed, Sent, Received}
use Rattle.wcp_relay.specs.LiveProbe.{LiveSide, LiveFor}
use Rattle.example_pool.specs.declared.dispatcher.Desk.{Desk}
use Rattle.example_pool.specs.declared.dispatcher.Pace.{Pace}
use Rattle.example_pool.specs.declared.dispatcher.Pace.TheVariants.{Together, InTurn}

-- What a replica does with a job that comes with this stamp: it receives it, finds itself at work, and answers.
abbrev pub calls_for : List ℕ → List Call
calls_for stamp = Received stamp ∷ Observed true ∷ Sent ∷ []

-- The log of a replica, one of n processes, that did so many jobs: it is at work from the receive of each to the send
-- of its answer, and at no other time.
pub data IsReplicaLog (n : ℕ) : ℕ → List Call → Type 0 where
  NoJob : IsReplicaLog n 0 []
  OneMore : {jobs : ℕ} {log : List Call} (stamp : List ℕ) → length stamp ≡ n → IsReplicaLog n jobs log
      → IsReplicaLog n (jobs + 1) (log ++ calls_for stamp)

-- How many jobs are unanswered at once, at most: one for each replica, or one.
abbrev pub most_unanswered : Pace → ℕ → ℕ
most_unanswered Together replicas = replicas
most_unanswered InTurn replicas = 1

-- The log of the dispatcher, one of n processes, that has so many answers and so many jobs unanswered, and never had
-- more of these than the most: after each send of a job and each receive of an answer it observes whether a job is
-- unanswered.
pub data IsDispatcherLog (n most : ℕ) : ℕ → ℕ → List Call → Type 0 where
  NothingYet : IsDispatcherLog n most 0 0 []
  GaveOut : {answers unanswered : ℕ} {log : List Call} → unanswered < most
      → IsDispatcherLog n most answers unanswered log
      → IsDispatcherLog n most answers (unanswered + 1) (log ++ Sent ∷ Observed true ∷ [])
  WasAnswered : {answers unanswered : ℕ} {log : List Call} (stamp : List ℕ) → length stamp ≡ n
      → IsDispatcherLog n most answers (unanswered + 1) log
      → IsDispatcherLog n most (answers + 1) unanswered
      (log ++ Received stamp ∷ Observed (nat_lt 0 unanswered) ∷ [])

-- How many processes there are for a probe.
abbrev pub processes_of : LiveSide → ℕ
processes_of probe = length probe.core.clock

-- A replica's probe stands for the log of so many jobs.
pub record IsAnswering (jobs : ℕ) (probe : LiveSide) : Type 0 where
  pub log : List Call
  pub is_log : IsReplicaLog (processes_of probe) jobs log
  pub stands : LiveFor probe log

-- And the dispatcher's stands for the log of its answers.
pub record IsDispatching (most : ℕ) (probe : LiveSide) (desk : Desk) : Type 0 where
  pub log : List Call
  pub is_log : IsDispatcherLog (processes_of probe) most desk.answered.jobs desk.unanswered log
  pub stands : LiveFor probe log

-- A replica answered one job more.
pub record AnswersJob (old new : LiveSide) : Type 0 where
  pub stamp : List ℕ
  pub whole : length stamp ≡ processes_of old
  pub same : processes_of new ≡ processes_of old
  pub stands : (log : List Call) → LiveFor old log → LiveFor new (log ++ calls_for stamp)
