use Rattle.std.proofs.Common.{◌≡◌, Err, ap}
use Rattle.wullaphi.specs.declared.watch_fault.WatchFault.TheVariants as fault
use Rattle.wullaphi.proofs.opening.OpenWatch.open.Goals as goal

pub returns-in-Err-clause-refused : goal.returns-in-Err-clause-refused
returns-in-Err-clause-refused c = λ refused. (
  (λ same. (c.in-Err.ensures.err refused).0 (cc)),
  (λ is.
      let met = (c.in-Err.ensures.err refused).1 is in
      let refused_is : c.in-Err.refused ≡ refused = cc in
      ap (λ f. Err (fault.Plan f)) refused_is),
)
