-- The seats of a watch may run: their probes are fresh.
use Rattle.std.proofs.Common.{ℕ, Some, List, ◌≡◌, ◌∙◌, get_or, slice_get, sym, ap}
use Rattle.std.proofs.lemmas.Option.{slice_get-get_or}
use Rattle.wcp_clock.specs.ProcessNumbers.{NumberSet}
use Rattle.wcp_model.specs.declared.plan.Plan.{Plan}
use Rattle.wcp_model.specs.ProbeLog.{setup}
use Rattle.wcp_probe.specs.Core.{Core}
use Rattle.wcp_relay.proofs.Entries.{mapped_at}
use Rattle.wcp_relay.proofs.LiveProbes.{fresh_stands}
use Rattle.wcp_relay.specs.LiveProbe.{LiveSide}
use Rattle.wcp_watch.specs.RunParts.{AreReady}
use Rattle.wcp_watch.specs.declared.running.Parts.{Parts}
use Rattle.wcp_relay.proofs.FreshProbes.{probes_fresh}
use Rattle.wullaphi.specs.Seats.{ArePartsOf, IsNewSeat}
use Rattle.wullaphi.specs.declared.seat.Seat.{Seat}

module _ {P : Type 0} {plan : Plan} {number : ℕ} {questions : List NumberSet} {processes : List P}
    {parts : Parts (Seat P)}
    (are : ArePartsOf plan number questions processes parts) where
  seat_ready : (k : ℕ) (seat : Seat P) → slice_get parts.workers.items k ≡ Some seat → IsNewSeat seat
  seat_ready k seat at =
      let there : slice_get are.watch.probes.items k ≡ Some seat.probe =
      ap (λ (probes : List LiveSide). slice_get probes k) (sym are.probes)
      ∙ mapped_at (λ (s : Seat P). s.probe) parts.workers.items k seat at in
      let fresh = (probes_fresh plan number are.watch are.wired).each k seat.probe there in
      record {
        fresh = fresh_stands _ (setup plan.n plan.watched plan.flag k) seat.probe fresh.0 fresh.1;
        put = ap (λ (core : Core). core.pending) fresh.0;
      }

  pub all_ready : AreReady IsNewSeat parts
  all_ready = record {
    workers =
        λ k d within. seat_ready k (get_or parts.workers.items k d) (slice_get-get_or parts.workers.items k d within);
    checking = are.fresh;
  }
