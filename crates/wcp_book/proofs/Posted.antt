use Rattle.std.proofs.Common.{◌≡◌, ℕ, ◌+◌, ◌*◌, ◌<◌, ◌≤◌, List, length, take, set, Option, Some, None, All}
use Rattle.std.proofs.Common.{slice_index_or, sum_by, arith, is_some, false}
use Rattle.std.proofs.lemmas.List.{length-take-le, get_or-take}
use Rattle.std.proofs.lemmas.List.Sums.{sum_by-set, sum_by-le}
use Rattle.std.proofs.Math.Seq.{take-set-lt}
use Rattle.wcp_clock.specs.Limits.{most_snapshots}
use Rattle.wcp_model.specs.declared.outcome.Tally.{Tally}
use Rattle.wcp_book.specs.Totals.{AreTotals, HasFewSnapshots}

-- a share that is posted where there was none adds its count to the sum
sum_with_share : (f : Option Tally → ℕ) → f None ≡ 0 → (n p : ℕ) (shares : List (Option Tally)) (share : Tally) →
    p < n → n ≤ length shares → slice_index_or shares p None ≡ None →
    sum_by f (take n (set shares p (Some share))) ≡ sum_by f (take n shares) + f (Some share)
sum_with_share f nothing n p shares share below within none =
    grind (arith, get_or-take, length-take-le, sum_by-set, take-set-lt)

pub posted_totals : (n p : ℕ) (shares : List (Option Tally)) (totals share : Tally) →
    p < n → n ≤ length shares → slice_index_or shares p None ≡ None → AreTotals (take n shares) totals →
    AreTotals (take n (set shares p (Some share)))
    (record { emitted = totals.emitted + share.emitted; taken = totals.taken + share.taken })
posted_totals n p shares totals share below within none are = grind (arith, sum_with_share)

-- the totals of few shares are small
pub few_totals : (shares : List (Option Tally)) (totals : Tally) → All HasFewSnapshots shares → AreTotals shares totals
    →
    (totals.emitted ≤ length shares * most_snapshots) × (totals.taken ≤ length shares * most_snapshots)
few_totals shares totals within are = grind (arith, sum_by-le)

pub no_share : (share : Option Tally) → is_some share ≡ false → share ≡ None
no_share share none = grind arith
