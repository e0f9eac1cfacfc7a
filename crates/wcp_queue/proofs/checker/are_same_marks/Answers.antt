use Rattle.std.specs.Cmp.{booleans_Decides}
use Rattle.std.proofs.lemmas.Slice.Eq.{slice_eq-Decides}
use Rattle.wcp_queue.proofs.checker.are_same_marks.Goals as goal

pub returns : goal.returns
returns c = slice_eq-Decides booleans_Decides c.args.some.now c.args.other.now c.eq.result c.eq.ensures
