-- What a leaf of one process serves.
use Rattle.std.proofs.Common.{◌≡◌, ◌≢◌, ◌==◌, ℕ, nat_cmp, List, [], ◌∷◌, arith}
use Rattle.std.specs.Prelude.{All, AllPairs}
use Rattle.std.specs.List.{list_any}
use Rattle.std.specs.FinSet as set
use Rattle.std.proofs.lemmas.Bool.Decides.{nat_tests}
use Rattle.std.proofs.lemmas.Grind.{common_steps}
use Rattle.wcp_lane.specs.Passes.{Numbers}
use Rattle.wcp_clock.proofs.Marks.{contains_with}
use Rattle.wcp_relay.specs.declared.feed.Feed.{Feed}
use Rattle.wcp_relay.specs.Feeding.{IsNewFeed, processes_of}

-- one new feed of process 0 serves the set of it
pub serves_one : (feed : Feed) (feeds : List Feed) (members : Numbers) → feeds ≡ feed ∷ [] → feed.process ≡ 0
    → IsNewFeed feed → members ≡ set.insert set.empty 0 →
    All IsNewFeed feeds × AllPairs (λ p q. p ≢ q) (processes_of feeds)
    × ((p : ℕ) → set.contains members p ≡ list_any (λ q. q == p) (processes_of feeds))
serves_one feed feeds members is own new only = rw (is, only) (
  (λ k d below. grind (arith, common_steps)),
  (λ i j d before below. absurd (omega arith)),
  (λ p. rw (contains_with set.empty 0 p) (grind (arith, nat_tests, own, set.contains-empty nat_cmp p))),
)
