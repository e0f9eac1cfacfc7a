use Rattle.std.proofs.Common.{◌≡◌, ℕ, ◌<◌, List, map, take, string_bytes, false}
use Rattle.std.specs.HashMap.{get_by_text}
use Rattle.trace_order.specs.Ids.{is_known, is_second, with_announced}
use Rattle.trace_order.proofs.announce.announce.Given as goal

abbrev pub invariant-loop-place : goal.invariant-loop-place
invariant-loop-place l = record {
  added : (id : List ℕ) → get_by_text l.announced id
      ≡ with_announced (get_by_text l.initial.announced) l.line (take l.place (map string_bytes l.ids)) id;
  new : (place : ℕ) → place < l.place
      → is_second (is_known (get_by_text l.initial.announced)) (map string_bytes l.ids) place ≡ false;
}
