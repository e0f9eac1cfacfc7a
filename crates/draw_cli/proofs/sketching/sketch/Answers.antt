use Rattle.std.proofs.Common.{option_map}
use Rattle.std.proofs.lemmas.Result.{err_from_is_err_and}
use Rattle.draw_cli.proofs.Named.{why_unnamed}
use Rattle.draw_cli.proofs.sketching.sketch.Goals as goal

pub returns-in_err-names-clause-fault : goal.returns-in_err-names-clause-fault
returns-in_err-names-clause-fault c =
    let read = c.in_ok-read.read in
    let handed = err_from_is_err_and c.from_residual-in_err-names.result c.from_residual-in_err-names.ensures.1 in
    rw (handed.1, handed.2) (why_unnamed (option_map (λ list. list.now) c.args.names) c.args.text.now
    read.workload.plan read.workload.tasks.items c.in_ok-read.ensures.exact.spells
    c.in_ok-read.ensures.could_be_read c.in_err-names.field-0.0 c.in_err-names.ensures.fault)

pub returns-clause-picture : goal.returns-clause-picture
returns-clause-picture c =
    let read = c.in_ok-read.read in
    record {
      plan = read.workload.plan;
      tasks = read.workload.tasks.items;
      spells = c.in_ok-read.ensures.exact.spells;
      named = c.in_ok-names.ensures.named;
      is_picture = c.in_ok-sketch_in_order.ensures;
    }
