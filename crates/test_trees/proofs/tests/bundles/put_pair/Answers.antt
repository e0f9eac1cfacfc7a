use Rattle.std.proofs.Common.{◌≡◌, ◌+◌, [], ◌∷◌, ◌++◌, List, sym, ap, ◌∙◌, subst, append_assoc, arith}
use Rattle.wcp_clock.specs.declared.note.Item.{Item}
use Rattle.wcp_lane.specs.Ends.{PutEnd}
use Rattle.wcp_relay.specs.RelayWork.{ItemsMayFollow}
use Rattle.wcp_relay.specs.declared.bundle.Bundle.{Bundle}
use Rattle.test_trees.specs.BundleLanes.{HasPut}
use Rattle.test_trees.proofs.Pairs.{next_may, more_put}
use Rattle.test_trees.proofs.tests.bundles.put_pair.Goals as goal

pub put-requires : goal.put-requires
put-requires g c =
    let end = c.args.putter.now in
    let n = c.args.number in
    let first = c.snap.result in
    let one : PutEnd Bundle Item = record end { put = end.put ++ first ∷ [] } in
    let has = more_put n end first c.requires.put c.snap.ensures.from c.snap.ensures.unended in
    subst (ItemsMayFollow end.members end.put) (sym c.pair.ensures) (
      next_may n end first c.requires.put c.snap.ensures.from c.snap.ensures.place,
      (next_may (n + 1) one c.args.second has c.requires.from c.requires.place, tt),
    )

pub returns-in-Ok-clause-put : goal.returns-in-Ok-clause-put
returns-in-Ok-clause-put g c = λ is snap.
    let end = c.args.putter.now in
    let n = c.args.number in
    let first = c.snap.result in
    let second = c.args.second in
    let one : PutEnd Bundle Item = record end { put = end.put ++ first ∷ [] } in
    let has = more_put (n + 1) one second
    (more_put n end first c.requires.put c.snap.ensures.from c.snap.ensures.unended) c.requires.from snap in
    let with : List Item → PutEnd Bundle Item =
    λ xs. record end { messages = end.messages ++ c.pair.result ∷ []; put = xs } in
    let two : PutEnd Bundle Item = with ((end.put ++ first ∷ []) ++ second ∷ []) in
    let both : HasPut (n + 1 + 1) two = record { member = has.member; count = has.count; unended = has.unended } in
    let path : c.put.new.self ≡ two = c.in-Ok.ensures.ok ∙ ap (λ xs. with (end.put ++ xs)) c.pair.ensures
    ∙ ap with (sym (append_assoc end.put (first ∷ []) (second ∷ []))) in
    subst (λ k. HasPut k c.put.new.self) (omega arith) (subst (HasPut (n + 1 + 1)) (sym path) both)
