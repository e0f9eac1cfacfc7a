use Rattle.wcp_queue.proofs.Words.{◌<◌, ◌≡◌, subst, sym, arith, All-push, AreSomeWatched}
use Rattle.wcp_queue.specs.Pairs.{pair_of}
use Rattle.wcp_queue.proofs.ListedPairs.{ArePairsBefore-more, AreSomeWatched-pair}
use Rattle.wcp_queue.proofs.pairs.add_pairs.Goals as goal

pub loop-b-preserved : goal.loop-b-preserved
loop-b-preserved c =
    let n = c.args.n in
    let a = c.args.a in
    let b = c.loop-b.b in
    let sets = c.loop-b.pairs.items in
    let order : a < b = omega arith in
    let within : b < n = omega arith in
    let is : c.pair.result ≡ pair_of a b =
    c.pair.ensures.two (omega (arith, c.requires.few)) (omega (arith, c.requires.few))
    (λ same. omega (arith, order, same)) in
    let some = subst (AreSomeWatched n) (sym is) (AreSomeWatched-pair n a b (omega arith) within) in
    rw c.in_ok-push.ensures.items (record {
      pairs = ArePairsBefore-more n sets a b c.pair.result order within is c.loop-b.invariant.pairs;
      watched = All-push (AreSomeWatched n) sets c.pair.result c.loop-b.invariant.watched some;
    })
