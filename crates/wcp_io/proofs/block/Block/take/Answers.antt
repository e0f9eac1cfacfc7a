use Rattle.wcp_io.proofs.Words.{◌≡◌, ◌∙◌, ◌+◌, ◌-◌, ◌≤◌, ℕ, List, length, take, drop, slice_range, sym, ap, subst}
use Rattle.wcp_io.proofs.Words.{arith, length-take, drop-drop, drop-take}
use Rattle.wcp_io.proofs.block.Block.take.Goals as goal

range_moved : (bytes : List ℕ) (start end count : ℕ) → start + count ≤ end
    → slice_range bytes (start + count) end ≡ drop count (slice_range bytes start end)
range_moved bytes start end count within =
    let rest = end - (start + count) in
    let whole : count + rest ≡ end - start = omega arith in
    ap (take rest) (sym (drop-drop count start bytes))
    ∙ sym (drop-take count rest (drop start bytes))
    ∙ ap (λ n. drop count (take n (drop start bytes))) whole

pub returns : goal.returns
returns c =
    let block = c.self.inside in
    let many : c.args.count ≤ length (slice_range block.bytes.items block.start block.end) =
    subst (λ (bytes : List ℕ). c.args.count ≤ length bytes) (sym c.self.view_is) c.requires in
    range_moved block.bytes.items block.start block.end c.args.count
    (omega (arith, length-take (block.end - block.start) (drop block.start block.bytes.items)))
    ∙ ap (drop c.args.count) c.self.view_is
