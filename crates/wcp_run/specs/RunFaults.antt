-- Why a run gives no outcome, as the ends of its parts tell.
use Rattle.std.specs.Prelude.{◌≡◌, ℕ, Bool, true, false, ◌||◌, ◌⊎◌, ◌<◌, Option, Some, None, List, [], ◌∷◌, ◌++◌}
use Rattle.std.specs.Prelude.{length, map, slice_get, IsTrue}
use Rattle.std.specs.List.{list_any, range_with_len}
use Rattle.wcp_relay.specs.RelayEnds.{fault_of}
use Rattle.wcp_relay.specs.declared.relay_end.RelayEnd.{RelayEnd}
use Rattle.wcp_relay.specs.declared.relay_end.RelayFault.{RelayFault}
use Rattle.wcp_relay.specs.declared.relay_end.RelayFault.TheVariants as relay_fault
use Rattle.wcp_model.specs.FirstReason.{IsFirstReason}
use Rattle.wcp_worker.specs.declared.worker_end.WorkerEnd.{WorkerEnd}
use Rattle.wcp_worker.specs.declared.worker_end.WorkerEnd.TheVariants.{GaveUp}
use Rattle.wcp_worker.specs.declared.worker_end.WorkerFault.TheVariants as worker_fault
use Rattle.wcp_watch.specs.declared.checker_end.CheckFault.{CheckFault}
use Rattle.wcp_watch.specs.declared.checker_end.CheckFault.TheVariants as check_fault
use Rattle.wcp_run.specs.declared.run_fault.RunFault.{RunFault}
use Rattle.wcp_run.specs.declared.run_fault.RunFault.TheVariants.{Memory, Spawn, Held, Lost, Cut, Unfinished}
use Rattle.wcp_watch.specs.declared.running.Ends.{Ends}

-- Its gate held a worker back; it left no end of its probe.
abbrev pub was_held : WorkerEnd → Bool
was_held (GaveUp worker_fault.Held probe) = true
was_held _ = false

abbrev pub was_lost : WorkerEnd → Bool
was_lost (GaveUp fault None) = true
was_lost _ = false

-- A worker, a relay, the checker met a cut.
abbrev pub worker_was_cut : WorkerEnd → Bool
worker_was_cut (GaveUp (worker_fault.Cut cut) probe) = true
worker_was_cut _ = false

abbrev pub is_cut_of_relay : Option RelayFault → Bool
is_cut_of_relay (Some (relay_fault.Cut cut)) = true
is_cut_of_relay _ = false

abbrev pub relay_was_cut : RelayEnd → Bool
relay_was_cut end = is_cut_of_relay (fault_of end)

abbrev pub is_cut_of_checker : Option CheckFault → Bool
is_cut_of_checker (Some (check_fault.Cut cut)) = true
is_cut_of_checker _ = false

-- What each reason says of the ends of a run.
abbrev pub IsReasonOf : Ends WorkerEnd → RunFault → Type 0
IsReasonOf ends Memory = ends.checker.fault ≡ Some check_fault.Memory
IsReasonOf ends Spawn = ⊥
IsReasonOf ends (Held p) = slice_get (map was_held ends.workers.items) p ≡ Some true
IsReasonOf ends (Lost p) = (slice_get (map was_lost ends.workers.items) p ≡ Some true)
    ⊎ (ends.checker.fault ≡ Some (check_fault.Lost p))
IsReasonOf ends Cut = IsTrue (list_any worker_was_cut ends.workers.items
    || list_any relay_was_cut ends.relays.items || is_cut_of_checker ends.checker.fault)
IsReasonOf ends Unfinished = ⊥

-- The reasons of n workers in the order in which they count: of one kind that of the lowest first.
abbrev pub run_reasons : ℕ → List RunFault
run_reasons n = Memory ∷ Spawn ∷ (map Held (range_with_len 0 n) ++ (map Lost (range_with_len 0 n) ++ Cut ∷ []))

-- The first of them that applies.
abbrev pub IsFirstRunFault : Ends WorkerEnd → RunFault → Type 0
IsFirstRunFault ends = IsFirstReason (IsReasonOf ends) (run_reasons (length ends.workers.items))

-- A process of which the checker tells that it was lost is one of the workers'.
abbrev pub IsToldWithin : Ends WorkerEnd → Type 0
IsToldWithin ends = (p : ℕ) → ends.checker.fault ≡ Some (check_fault.Lost p) → p < length ends.workers.items
