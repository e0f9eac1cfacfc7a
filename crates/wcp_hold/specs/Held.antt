use Rattle.std.specs.Prelude.{ℕ, List, []}
use Rattle.wcp_clock.specs.declared.note.Item.{Item}

-- What a hold has: its items, the first to be popped first, and how many it has room for.
pub record Held : Type 0 where
  pub items : List Item
  pub room : ℕ

abbrev pub empty_hold : ℕ → Held
empty_hold room = record { items = []; room = room }
