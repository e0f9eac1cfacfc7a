use Rattle.std.specs.Prelude.{◌≡◌, ℕ, ◌≤◌, List, Option, Some, None}
use Rattle.std.specs.List.{sum_by}
use Rattle.wcp_clock.specs.Limits.{most_snapshots}
use Rattle.wcp_model.specs.declared.outcome.Tally.{Tally}

-- What a place of the book adds to the totals: the counts of its share, or nothing where none was posted.
abbrev pub emitted_of_share : Option Tally → ℕ
emitted_of_share None = 0
emitted_of_share (Some share) = share.emitted

abbrev pub taken_of_share : Option Tally → ℕ
taken_of_share None = 0
taken_of_share (Some share) = share.taken

-- The totals are the sums of the shares.
pub record AreTotals (shares : List (Option Tally)) (totals : Tally) : Type 0 where
  pub emitted : totals.emitted ≡ sum_by emitted_of_share shares
  pub taken : totals.taken ≡ sum_by taken_of_share shares

-- A share counts no more snapshots than a process can emit.
abbrev pub HasFewSnapshots : Option Tally → Type 0
HasFewSnapshots share = (emitted_of_share share ≤ most_snapshots) × (taken_of_share share ≤ most_snapshots)
