use Rattle.std.proofs.Common.{ap, option_map, string_bytes, Vec, Global, ℕ}
use Rattle.std.specs.Map.{lookup}
use Rattle.std.specs.Str.{bytes_eq}
use Rattle.trace_order.proofs.Kept.{same_kept}
use Rattle.trace_order.proofs.order.MessageOrder.new.Goals as goal

pub returns-clause-none : goal.returns-clause-none
returns-clause-none c =
    same_kept _ _ _ _ _ _ c.new.ensures.items
    (λ id. ap (lookup (λ key. bytes_eq id (string_bytes key))) c.new-2.ensures.empty)
    (λ id. ap (λ entries. option_map (λ (v : Vec ℕ Global). v.items)
    (lookup (λ key. bytes_eq id (string_bytes key)) entries)) c.new-3.ensures.empty)
