-- The words of the proofs of this crate, from one place.
pub use Rattle.std.proofs.Common.{◌≡◌, ℕ, ◌<◌, Option, Some, None, List, length, map, slice_get, sym, ap, subst₂, ◌∙◌}
pub use Rattle.std.proofs.Common.{arith, zero, suc, Bool, true, [], ◌∷◌, ◌++◌, refl, zero-add, ◌≤◌, subst, Err, get_or}
pub use Rattle.std.proofs.Common.{true≢false, inl, inr, ⊎_elim}
pub use Rattle.std.proofs.lemmas.Bool.{cases_lt}
pub use Rattle.std.proofs.lemmas.List.{length-map}
pub use Rattle.std.proofs.lemmas.Option.{slice_get-map, slice_get-get_or, slice_get_within, get_or_from_slice_get}
pub use Rattle.std.specs.Option.{option_map}
pub use Rattle.wcp_model.proofs.SamePlace.{element_within, count_by_no, count_by_yes}
pub use Rattle.wcp_model.specs.declared.plan.Plan.{Plan}
pub use Rattle.wcp_model.specs.declared.workload.Task.{Task}
pub use Rattle.wcp_run.specs.PlayedEnds.{probe_left, mailbox_left, AreOfWorkers}
pub use Rattle.wcp_run.specs.RunFaults.{IsFirstRunFault, IsReasonOf, IsToldWithin, was_held, was_lost, run_reasons}
pub use Rattle.wcp_run.specs.RunWorkload.{AreEndsOfRun, ArePartsOf}
pub use Rattle.wcp_run.specs.declared.played_ends.PlayedEnds.{PlayedEnds}
pub use Rattle.wcp_relay.specs.LiveProbe.{LiveSide, ClosedSide, snapshots_in}
pub use Rattle.wcp_watch.specs.declared.running.Ends.{Ends}
pub use Rattle.wcp_worker.specs.Played.{HasPlayed, IsEndOfWorker}
pub use Rattle.wcp_worker.specs.Runs.{AreOfLane, ends_between, outbox_of, inbox_of, AreMatched, HaveRun}
pub use Rattle.wcp_worker.specs.declared.worker.Worker.{Worker}
pub use Rattle.wcp_worker.specs.declared.worker_end.WorkerEnd.{WorkerEnd}
