use Rattle.wcp_order.proofs.Words.{ℕ, ◌*◌, mul-le-mul, take-replicate}
use Rattle.wcp_order.proofs.listing.is_fit.Goals as goal

pub follows-requires-clause-none : goal.follows-requires-clause-none
follows-requires-clause-none c =
    take-replicate {X = ℕ} (c.args.n * c.args.n) 256 0 (mul-le-mul c.requires.few c.requires.few)
