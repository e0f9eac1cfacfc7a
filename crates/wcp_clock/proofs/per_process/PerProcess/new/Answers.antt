use Rattle.std.proofs.Common.{◌≡◌, ℕ, ◌-◌, ◌≤◌, List, ◌++◌, length, drop, replicate, refl, arith, ◌∙◌}
use Rattle.std.proofs.lemmas.List.{length-append, length-drop, length-replicate, drop_at, drop-replicate}
use Rattle.wcp_clock.proofs.per_process.PerProcess.new.Goals as goal

-- a prefix written over filler leaves as many cells, and filler behind it
written_prefix : {T : Type 0} (filler : T) (size : ℕ) (front : List T) → length front ≤ size
    → (length (front ++ drop (length front) (replicate size filler)) ≡ size) × (drop (length front)
    (front ++ drop (length front) (replicate size filler)) ≡ replicate (size - length front) filler)
written_prefix filler size front within = (
  omega (
    arith,
    length-append front (drop (length front) (replicate size filler)),
    length-drop (length front) (replicate size filler),
    length-replicate size filler,
  ),
  drop_at front (drop (length front) (replicate size filler)) (length front) refl
      ∙ drop-replicate (length front) size filler,
)

pub invariant_of-result : goal.invariant_of-result
invariant_of-result g c =
    let written = written_prefix g.T.Padding.padding 16 c.args.values.now c.requires.within in
    rw (c.copy_from_slice.ensures.after, c.padding-padded.ensures)
    (c.requires.some, c.requires.within, written.0, written.1)
