use Rattle.trace_detect.proofs.Words.{refl, []}
use Rattle.trace_detect.proofs.Detecting.{first_unknown}
use Rattle.trace_detect.proofs.Following.{keeping_of}
use Rattle.trace_detect.proofs.Words.{None, taken_of}
use Rattle.trace_detect.proofs.Watches.{keeps_all}
use Rattle.trace_detect.proofs.moments.Moments.new.Goals as goal

pub returns : goal.returns
returns c input =
    let watcher = c.in_ok-new-2.field-0 in
    let watching = c.in_ok-new-2.ensures in
    let unknown = first_unknown c.args.conditions.now watcher watching in
    record {
      read = c.in_ok-new.ensures input;
      keeping = keeping_of c.args.conditions.now None [] watcher watching
          (keeps_all (taken_of c.args.conditions.now []) watcher.search watching.taken unknown);
      taken = watching.taken;
      known = unknown;
      many = refl;
    }
