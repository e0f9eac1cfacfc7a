use Rattle.wcp_watch.proofs.Words.{◌≡◌, ◌<◌, ℕ, Some, length, slice_get, most_processes, ClosedSide, NotesRise, SitsAt}
use Rattle.wcp_watch.proofs.Words.{share_of}
use Rattle.wcp_watch.proofs.shares.tallies.Given as goal

abbrev pub invariant-loop-p : goal.invariant-loop-p
invariant-loop-p l =
    record {
      count : length l.tallies ≡ most_processes;
      shares : (p : ℕ) (probe : ClosedSide) → p < l.p → SitsAt l.probes p probe
          → slice_get l.tallies p ≡ Some (share_of probe);
      rise : (p : ℕ) (probe : ClosedSide) → p < l.p → SitsAt l.probes p probe → NotesRise probe.id probe.link.put;
    }
