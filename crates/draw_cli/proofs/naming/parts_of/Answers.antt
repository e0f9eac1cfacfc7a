use Rattle.std.proofs.Common.{arith}
use Rattle.std.proofs.lemmas.Result.{IfOk-weaker}
use Rattle.draw_cli.proofs.Parts.{are_parts}
use Rattle.draw_cli.proofs.naming.parts_of.Goals as goal

pub returns : goal.returns
returns c = IfOk-weaker c.collect.result _ _ (λ parts ran.
    let whole = ran tt in
    let run = whole.0 in
    let split = c.split.ensures.runs run run.seen whole.1 in
    let cut = split.2 (omega arith) ((λ q same. same), (λ w o found. found)) in
    rw whole.3.0 (are_parts run c.args.list.now whole.2 split.0 cut.0 cut.1))
    c.collect.ensures.runs
