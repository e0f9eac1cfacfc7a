use Rattle.std.proofs.Common.{◌≡◌, ◌+◌, ◌≤◌, false, drop}
use Rattle.trace_spelling.specs.Breaks.{breaks}
use Rattle.trace_spelling.proofs.breaks.breaks_in.Given as goal

abbrev pub invariant-loop-byte : goal.invariant-loop-byte
invariant-loop-byte l = record {
  within : l.count ≤ l.byte-index;
  left : l.count + breaks l.is_escaped (drop l.byte-index l.byte-items) ≡ breaks false l.byte-items;
}
