-- The ends of a lane, as contracts see them.
use Rattle.std.specs.Prelude.{◌≡◌, ℕ, ◌<◌, List, [], ◌∷◌, length, slice_index, slice_get, All, IfSome}
use Rattle.std.specs.FinSet as set
use Rattle.atomic_table.specs.Seated.{TableId}
use Rattle.atomic_table.specs.declared.badge.Badge.{Badge}
use Rattle.crossbeam_channel.specs.declared.flavors.array.Key.{Key}
use Rattle.crossbeam_channel.specs.Claims.{Pass}
use Rattle.wcp_clock.specs.Limits.{most_processes}
use Rattle.wcp_lane.specs.declared.counts.Span.{Span}
use Rattle.wcp_lane.specs.declared.passes.Hand.{Hand}
use Rattle.wcp_lane.specs.declared.passes.Home.{Home}
use Rattle.wcp_model.specs.LaneRule.{items_from}
use Rattle.wcp_lane.specs.Passes.{Numbers}

-- Which lane it is: the table and the key of its channel, which no other channel shares.
abbrev pub LaneName : Type 0 → Type 0
LaneName M = TableId × Badge (Key M)

-- An end that puts: its lane of messages, the numbers of which it puts, the messages that it has put, and their items.
pub record PutEnd (M I : Type 0) : Type 0 where
  pub lane : LaneName M
  pub members : Numbers
  pub messages : List M
  pub put : List I

-- The end that takes: its lane, how many messages that has room for, the numbers of all sets of the lane, and the items
-- that it has taken.
pub record TakeEnd (M I : Type 0) : Type 0 where
  pub lane : LaneName M
  pub room : ℕ
  pub members : Numbers
  pub taken : List I

-- What is left of it: also the numbers of the putters that it was reconciled with.
pub record TakenEnd (M I : Type 0) : Type 0 where
  pub lane : LaneName M
  pub members : Numbers
  pub matched : Numbers
  pub taken : List I

-- a putter that has put nothing
abbrev pub new_putter : {M I : Type 0} → LaneName M → Numbers → PutEnd M I
new_putter lane members = record { lane = lane; members = members; messages = []; put = [] }

module _ {M : Type 0} where
  abbrev pub lane_of : Pass M (Hand M) → LaneName M
  lane_of pass = (pass.table_id, pass.me.0.of)

  abbrev pub hand_of : Pass M (Hand M) → Hand M
  hand_of pass = pass.me.0.client

  abbrev pub first_put : List (Home M) → List M
  first_put [] = []
  first_put (h ∷ hs) = h.put

  -- the messages that an end has put of the numbers that it stood for first
  abbrev pub put_by : Hand M → List M
  put_by v = first_put v.home

  abbrev pub first_numbers : List (Home M) → Numbers
  first_numbers [] = set.empty
  first_numbers (h ∷ hs) = h.numbers

  -- the numbers that an end stood for first
  abbrev pub unowned_by : Hand M → Numbers
  unowned_by v = first_numbers v.home

-- how many of these items there are of each origin
abbrev pub AreCounts : {I : Type 0} → (I → ℕ) → List ℕ → List I → Type 0
AreCounts origin counts items =
    (length counts ≡ most_processes)
    × ((p : ℕ) → p < most_processes → slice_index counts p ≡ length (items_from origin p items))

-- what a span says of some items: their one origin, how many of it stand before the first of them, and how many they
-- are
pub record IsSpanOf {I : Type 0} (origin place : I → ℕ) (items : List I) (span : Span) : Type 0 where
  pub own : All (λ item. origin item ≡ span.origin) items
  pub first : IfSome (slice_get items 0) (λ item. span.place ≡ place item)
  pub some : 0 < span.items
  pub counted : span.items ≡ length items
