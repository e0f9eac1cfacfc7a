use Rattle.std.proofs.Common.{◌≡◌, ◌<◌, ◌≢◌, length, get_or, arith, get_or-set_other, get_or-set_same, below_more}
use Rattle.std.proofs.lemmas.List.{length-set}
use Rattle.wcp_clock.proofs.Merging.{merged_by_places}
use Rattle.wcp_clock.proofs.per_process.greater.Goals as goal

pub loop-place-preserved : goal.loop-place-preserved
loop-place-preserved c = record {
  long = rw length-set c.loop-place.invariant.long;
  done = below_more _ _
      (λ k h. let ne : k ≢ c.loop-place.place = omega arith in rw get_or-set_other (c.loop-place.invariant.done k h))
      (let lt : c.loop-place.place < length c.loop-place.greater = omega arith in
      let kept : get_or c.loop-place.greater c.loop-place.place 0 ≡ get_or c.args.mine.now c.loop-place.place 0 =
      c.loop-place.invariant.left c.loop-place.place (omega arith) in
      rw get_or-set_same (cc c.max.ensures));
  left = λ k h. let ne : k ≢ c.loop-place.place = omega arith in
      rw get_or-set_other (c.loop-place.invariant.left k (omega arith));
}

pub returns : goal.returns
returns c =
    merged_by_places c.loop-place.greater c.args.mine.now c.args.theirs.now (omega arith) (omega arith)
    (λ k inside. c.loop-place.invariant.done k (omega arith))
