use Rattle.wcp_queue.proofs.Words.{◌≡◌, sym, ◌∙◌, subst, length, arith, length-take-le, members_of}
use Rattle.wcp_queue.proofs.WatchedRows.{AreListed, listed_with, listed_without, listed_members, some_rows}
use Rattle.wcp_queue.proofs.checker.members_of.Goals as goal
use Rattle.wcp_queue.proofs.checker.members_of.Goals.{then-has, else-has}

pub loop-p-preserved : goal.loop-p-preserved
loop-p-preserved c =
    let are = c.loop-p.invariant in
    elim c.if-has.branch [
      | then-has w ↦ rw (w.members-is, w.count-is)
          (listed_with c.loop-p.members c.loop-p.count c.loop-p.p c.args.watched.now are
          (sym c.has.ensures.value ∙ w.if-has.true) (omega (arith, are.few, c.requires.few)))
      | else-has w ↦ rw (w.members-is, w.count-is)
          (listed_without c.loop-p.members c.loop-p.count c.loop-p.p c.args.watched.now are
          (sym c.has.ensures.value ∙ w.if-has.false))
    ]

pub new-requires : goal.new-requires
new-requires c =
    let are = c.loop-p.invariant in
    let all : c.loop-p.p ≡ c.args.n = omega arith in
    let size = length-take-le c.loop-p.count c.loop-p.members (omega (arith, are.long, are.few, c.requires.few)) in
    let some = some_rows c.args.n c.args.watched.now c.requires.watched in
    let counted : c.loop-p.count ≡ length (members_of c.args.n c.args.watched.now) =
    subst (λ n. c.loop-p.count ≡ length (members_of n c.args.watched.now)) all are.counted in
    (omega arith, (omega (arith, size, some, counted), omega (arith, size, are.few, c.requires.few)))

pub returns : goal.returns
returns c =
    let all : c.loop-p.p ≡ c.args.n = omega arith in
    let are = subst (λ n. AreListed c.loop-p.members c.loop-p.count n c.args.watched.now) all c.loop-p.invariant in
    c.new.ensures ∙ listed_members c.loop-p.members c.loop-p.count c.args.n c.args.watched.now are c.requires.few
