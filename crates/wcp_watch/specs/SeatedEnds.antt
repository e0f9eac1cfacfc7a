-- The ends of a watch that settling has found in order: all there, of one watch, and without a fault.
use Rattle.std.specs.Prelude.{◌≡◌, ◌<◌, ℕ, Some, None, Option, List, length, slice_get, All}
use Rattle.wcp_model.specs.declared.outcome.Tally.{Tally}
use Rattle.wcp_relay.specs.LiveProbe.{ClosedSide, NotesRise}
use Rattle.wcp_relay.specs.RelayEnds.{fault_of, number_of, watch_of}
use Rattle.wcp_relay.specs.declared.relay_end.RelayEnd.{RelayEnd}
use Rattle.wcp_watch.specs.declared.checker_end.CheckerEnd.{CheckerEnd}
use Rattle.wcp_watch.specs.declared.seated_ends.SeatedEnds.{SeatedEnds}
use Rattle.wcp_watch.specs.Seats.{AreOfWatch, AreSeats, AreAllSeated, SitsAt}
use Rattle.wcp_watch.specs.Settling.{share_of}

-- All these ends are of the checker's watch and sit each at the place of its number, one of each process and each
-- relay, and none has a fault.
pub record AreSeatedAndWhole (probes : List ClosedSide) (relays : List RelayEnd) (checker : CheckerEnd)
    (ends : SeatedEnds) : Type 0 where
  pub of_probes : AreOfWatch (λ end. end.watch) (λ end. end.id) checker.watch probes
  pub of_relays : AreOfWatch watch_of number_of checker.watch relays
  pub probes_sit : AreSeats (λ end. end.id) probes ends.probes
  pub relays_sit : AreSeats number_of relays ends.relays
  pub all_probes : AreAllSeated checker.processes ends.probes
  pub all_relays : AreAllSeated checker.relays ends.relays
  pub whole : All (λ end. fault_of end ≡ None) relays × (checker.fault ≡ None)

-- These are the shares of the first processes, as the ends of their probes sit, and the clocks of what these put rise.
pub record AreShares (count : ℕ) (probes : List (Option ClosedSide)) (tallies : List Tally) : Type 0 where
  pub count_is : length tallies ≡ count
  pub each : (p : ℕ) (probe : ClosedSide) → p < count → SitsAt probes p probe
      → slice_get tallies p ≡ Some (share_of probe)
  pub rise : (p : ℕ) (probe : ClosedSide) → p < count → SitsAt probes p probe → NotesRise probe.id probe.link.put
