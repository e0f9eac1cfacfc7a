use Rattle.std.proofs.Common.{[], refl}
use Rattle.wullaphi.proofs.lending.lend_and_close.Goals as goal

pub lend-requires-clause-lent : goal.lend-requires-clause-lent
lend-requires-clause-lent g c =
    record {
      of_watch = refl;
      of_process = refl;
      of_ring = refl;
      put = c.requires.put;
      some_log = ∣ ([], c.requires.fresh) ∣₁;
    }
