use Rattle.trace_pairs.proofs.Words.{◌≡◌, length, take}
use Rattle.trace_log.specs.Names.{names_in}
use Rattle.trace_log.specs.Seen.{seen_clock}
use Rattle.trace_pairs.proofs.clocks.put_numbers.Given as goal

abbrev pub invariant-loop-place : goal.invariant-loop-place
invariant-loop-place l = record {
  many : length l.clock ≡ length l.next;
  names : names_in (seen_clock l.clock) ≡ names_in (seen_clock l.next);
  same : seen_clock (take l.place l.clock) ≡ seen_clock (take l.place l.next);
}
