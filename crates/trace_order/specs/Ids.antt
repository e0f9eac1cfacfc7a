-- The ids that a log sends.
use Rattle.std.specs.Prelude.{◌≡◌, ℕ, zero, suc, ◌<◌, ◌||◌, Bool, true, false, List, [], length, take, slice_index_or}
use Rattle.std.specs.Prelude.{Contains, Option, Some, None, is_some, option_map, if◌then◌else◌}
use Rattle.std.specs.Option.{option_or}
use Rattle.trace_order.specs.Messages.{MessageEvent, is_among, Sends}

-- The id at a place.
abbrev pub id_at : List (List ℕ) → ℕ → List ℕ
id_at ids place = slice_index_or ids place []

-- Whether the id at a place is known, or stands among those before it.
abbrev pub is_second : (List ℕ → Bool) → List (List ℕ) → ℕ → Bool
is_second is_known ids place = is_known (id_at ids place) || is_among (id_at ids place) (take place ids)

-- None is known, and none stands twice.
abbrev pub AreNew : (List ℕ → Bool) → List (List ℕ) → Type 0
AreNew is_known ids = (place : ℕ) → place < length ids → is_second is_known ids place ≡ false

-- One is known, or stands twice.
abbrev pub HasSecond : (List ℕ → Bool) → List (List ℕ) → Type 0
HasSecond is_known ids = (place : ℕ) × (place < length ids) × (is_second is_known ids place ≡ true)

-- The line of the event that sends each id, with those of one more event.
abbrev pub with_announced : (List ℕ → Option ℕ) → ℕ → List (List ℕ) → List ℕ → Option ℕ
with_announced lines line sends id = if is_among id sends then Some line else lines id

-- Whether an event sends the id.
abbrev pub is_known : (List ℕ → Option ℕ) → List ℕ → Bool
is_known lines id = is_some (lines id)

-- An id that is sent a second time, and the line of the event that sent it first.
pub record Second : Type 0 where
  pub id : List ℕ
  pub first : ℕ

-- The id at a place, if it is sent a second time there, by the event of this line.
abbrev pub second_at : (List ℕ → Option ℕ) → ℕ → List (List ℕ) → ℕ → Option Second
second_at lines line ids place =
    option_map (λ first. record { id = id_at ids place; first = first })
    (with_announced lines line (take place ids) (id_at ids place))

-- What stands at the first of the first places at which anything stands.
unfoldable pub first_at : {X : Type 0} → (ℕ → Option X) → ℕ → Option X
first_at at zero = None
first_at at (suc count) = option_or (first_at at count) (at count)

-- The first of these ids that is sent a second time, by the event of this line.
unfoldable pub second_in : (List ℕ → Option ℕ) → ℕ → List (List ℕ) → Option Second
second_in lines line ids = first_at (second_at lines line ids) (length ids)

-- An event of the log sends the id.
pub record IsAnnounced (log : List MessageEvent) (id : List ℕ) : Type 0 where
  pub sender : MessageEvent
  pub was_read : Contains log sender
  pub sends : Sends sender id
