use Rattle.std.proofs.Common.{◌∙◌, ap, arith, false}
use Rattle.trace_spelling.specs.Breaks.{breaks}
use Rattle.trace_spelling.proofs.LineEnds.{one_more, all_counted, at_most_one}
use Rattle.trace_spelling.proofs.breaks.breaks_in.Goals as goal

pub loop-byte-preserved : goal.loop-byte-preserved
loop-byte-preserved c = record {
  within = let one = at_most_one c.is_break.result c.count_of-count.result c.count_of-count.ensures in omega arith;
  left = one_more c.loop-byte.count c.count_of-count.result c.loop-byte.byte-index _ c.loop-byte.is_escaped
      c.begins_escape-is_escaped.result c.is_break.result c.as_bytes-byte-items.result.now c.loop-byte-test.true
      c.loop-byte.invariant.left c.count_of-count.ensures c.is_break.ensures c.begins_escape-is_escaped.ensures;
}

pub returns : goal.returns
returns c =
    all_counted c.loop-byte.count c.loop-byte.byte-index _ c.loop-byte.is_escaped c.as_bytes-byte-items.result.now
    c.loop-byte-test.false c.loop-byte.invariant.left ∙ ap (breaks false) c.as_bytes-byte-items.ensures.value
