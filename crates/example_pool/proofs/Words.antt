-- The words of the proofs of this crate, from one place.
pub use Rattle.std.proofs.Common.{◌≡◌, ℕ, ◌+◌, List, [], ◌∷◌, ◌++◌, if◌then◌else◌, refl, ap, ◌∙◌, arith, None, length}
pub use Rattle.std.proofs.Common.{subst, append_assoc, zero, suc, Some, slice_get, sym, ◌≤◌, Result, Ok, map, ◌%◌, ◌^◌}
pub use Rattle.std.proofs.Common.{take, get_or, All, ◌*◌, true, ◌-◌, nat_lt}
pub use Rattle.std.proofs.lemmas.List.{length-map, length-append}
pub use Rattle.std.proofs.lemmas.List.Sums.{fold-append, sum_by-append, sum_by_more}
pub use Rattle.std.specs.Prelude.{IsSomeAnd, sum}
pub use Rattle.example_pool.specs.Logs.{IsReplicaLog, NoJob, OneMore, calls_for, NothingYet, GaveOut, processes_of}
pub use Rattle.example_pool.specs.Logs.{IsDispatching, most_unanswered, IsDispatcherLog, WasAnswered, IsAnswering}
pub use Rattle.example_pool.specs.Members.{IsLogOfPart, IsPool, IsReplica, jobs_of, DidPart, LeavesPart}
pub use Rattle.example_pool.specs.Pools.{IsLogAt, jobs_at, IsLogTaken, IsPoolReport, IsToldAt, snapshots_at}
pub use Rattle.example_pool.specs.declared.dispatcher.Pace.{Pace}
pub use Rattle.example_pool.specs.declared.member.PoolMember.{PoolMember}
pub use Rattle.wcp_model.specs.declared.probe_setup.ProbeSetup.{ProbeSetup}
pub use Rattle.wcp_model.specs.ProbeLog.{Call, Closed, after_call, state_of_log, setup, Observed, Sent, Received}
pub use Rattle.wcp_probe.specs.Seal.{Seal, seal_of}
pub use Rattle.wcp_relay.proofs.Entries.{All-at, mapped_at}
pub use Rattle.wcp_relay.specs.LiveProbe.{snapshots_in, LiveSide, LiveFor, LiveAccepts}
