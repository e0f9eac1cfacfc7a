use Rattle.std.proofs.Common.{◌∙◌, Some, ap, cond, string_bytes}
use Rattle.std.proofs.lemmas.Map.Text.{hash_map_updates_text}
use Rattle.std.specs.HashMap.{get_by_text}
use Rattle.std.specs.Str.{bytes_eq}
use Rattle.trace_order.proofs.announce.announce_one.Goals as goal

pub returns-clause-added : goal.returns-clause-added
returns-clause-added c = λ other.
    hash_map_updates_text (string_bytes c.in_ok-from_str.field-0) c.args.announced.now c.insert.new.self _
    c.in_ok-insert.ensures.updates other
    ∙ ap (λ k. cond (bytes_eq k other) (Some c.args.line) (get_by_text c.args.announced.now other))
    c.in_ok-from_str.ensures.ok
