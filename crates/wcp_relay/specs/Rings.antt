-- The rings of a watch, and the feeds of its leaves, before anything runs.
use Rattle.std.specs.Prelude.{◌≡◌, ◌≢◌, ◌==◌, ◌↔◌, ℕ, ◌<◌, false, true, Option, Some, List, [], length, slice_get, All}
use Rattle.std.specs.Prelude.{AllPairs}
use Rattle.std.specs.List.{list_any}
use Rattle.wcp_model.specs.declared.plan.Plan.{Plan}
use Rattle.wcp_model.specs.ProbeLog.{setup}
use Rattle.wcp_model.specs.Tree.{leaf_of}
use Rattle.wcp_ring.specs.Ends.{TakeSide}
use Rattle.wcp_relay.specs.declared.feed.Feed.{Feed}
use Rattle.wcp_relay.specs.LiveProbe.{LiveSide, fresh_core}

-- The end that takes from the ring of process p is here to be given to a leaf, and nothing was taken by it.
abbrev pub IsTakerAt : List (Option TakeSide) → ℕ → TakeSide → Type 0
IsTakerAt takers p taker = (slice_get takers p ≡ Some (Some taker)) × (taker.taken ≡ [])

-- The ring of process p has the room of the plan: its probe is fresh, has put nothing and knows that all slots are
-- free, and the end that takes is of the same ring.
pub record IsNewRing (plan : Plan) (watch p : ℕ)
    (probes : List LiveSide) (takers : List (Option TakeSide)) : Type 0 where
  pub probe : LiveSide
  pub taker : TakeSide
  pub is_probe : slice_get probes p ≡ Some probe
  pub fresh : probe.core ≡ fresh_core watch (setup plan.n plan.watched plan.flag p)
  pub empty : probe.link.put ≡ []
  pub room : probe.link.free ≡ plan.cap
  pub is_taker : IsTakerAt takers p taker
  pub one_ring : taker.ring ≡ probe.link.ring

-- The rings of the first k processes.
pub record AreRings (plan : Plan) (watch k : ℕ)
    (probes : List LiveSide) (takers : List (Option TakeSide)) : Type 0 where
  pub probes_count : length probes ≡ k
  pub takers_count : length takers ≡ k
  pub each : (p : ℕ) → p < k → IsNewRing plan watch p probes takers

-- A feed that has taken nothing has the end of its process's ring that was here to be given.
pub record IsFeed (plan : Plan) (leaf : ℕ) (takers : List (Option TakeSide)) (k : ℕ) (feed : Feed) : Type 0 where
  pub first : feed.next ≡ 0
  pub unended : feed.ended ≡ false
  pub not_lost : feed.lost ≡ false
  pub taker : IsTakerAt takers feed.process feed.taker
  pub within : feed.process < k
  pub served : leaf_of plan feed.process ≡ Some leaf

-- The feeds of a leaf: one for each process that it serves among the first k.
pub record AreFeeds (plan : Plan) (leaf : ℕ) (takers : List (Option TakeSide)) (k : ℕ)
    (feeds : List Feed) : Type 0 where
  pub each : All (IsFeed plan leaf takers k) feeds
  pub processes : (p : ℕ) → (list_any (λ feed. feed.process == p) feeds ≡ true)
      ↔ ((p < k) × (leaf_of plan p ≡ Some leaf))
  pub apart : AllPairs (λ a b. a.process ≢ b.process) feeds
