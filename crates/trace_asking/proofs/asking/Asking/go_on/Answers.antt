use Rattle.trace_asking.proofs.Words.{ap, arith, refl}
use Rattle.trace_asking.specs.Asking.{answered_in}
use Rattle.trace_asking.proofs.Questions.{all_wait, can_read_one, hands_further, reads_further, reads_to_end}
use Rattle.trace_asking.proofs.asking.Asking.go_on.Goals as goal

pub read_one-requires : goal.read_one-requires
read_one-requires g c =
    can_read_one g.S.Source.story c.args.self.now c.requires.can
    c.requires.none_known c.requires.goes_on (omega (arith, c.in-Some.ensures))

pub returns-in_err-read_one-clause-reads : goal.returns-in_err-read_one-clause-reads
returns-in_err-read_one-clause-reads g c whole questions are =
    let story = g.S.Source.story whole in
    hands_further story questions _ _ _ _ c.from_residual.ensures
    (c.in_err-read_one.ensures.reads whole questions are.logged (rw c.requires.goes_on at are.given)
    (all_wait story questions c.args.self.now.source are.logged c.args.self.now.asked.items are.asked
    c.requires.none_known))

pub returns-then-not-branch-clause-reads : goal.returns-then-not-branch-clause-reads
returns-then-not-branch-clause-reads g c whole questions are =
    let story = g.S.Source.story whole in
    let waits = all_wait story questions c.args.self.now.source are.logged c.args.self.now.asked.items
    are.asked c.requires.none_known in
    let ends = rw c.if-not-branch.true at
    (c.in_ok-read_one.ensures.reads whole questions are.logged (rw c.requires.goes_on at are.given) waits) in (
      reads_to_end story questions c.args.self.now _ are c.requires.none_known ends.0 ends.1 refl refl,
      ap answered_in ends.1,
    )

pub returns-clause-reads : goal.returns-clause-reads
returns-clause-reads g c whole questions are =
    let story = g.S.Source.story whole in
    let waits = all_wait story questions c.args.self.now.source are.logged c.args.self.now.asked.items
    are.asked c.requires.none_known in
    let reads = rw c.if-not-branch.false at
    (c.in_ok-read_one.ensures.reads whole questions are.logged (rw c.requires.goes_on at are.given) waits) in (
      reads_further story questions c.args.self.now _ are reads.0 (omega (arith, c.in-Some.ensures))
          c.requires.goes_on,
      reads.1,
    )
