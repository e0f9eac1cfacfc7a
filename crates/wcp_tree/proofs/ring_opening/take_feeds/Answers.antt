use Rattle.wcp_tree.proofs.Words.{◌≡◌, ◌≢◌, ◌++◌, ◌∷◌, [], Option, Some, None, Vec, Global, sym, ap, subst, ◌∙◌}
use Rattle.wcp_tree.proofs.Words.{slice_set, leaf_of, TakeSide, Feed, IsTakerAt, is_its_number, is_not_its_number}
use Rattle.wcp_tree.proofs.OpeningRings.{its_taker, not_taken, one_taken}
use Rattle.wcp_tree.proofs.ring_opening.take_feeds.Goals.{then-is_attached+in-Some+in_ok-push-in-Some, else-is_attached}
use Rattle.wcp_tree.proofs.ring_opening.take_feeds.Goals as goal

pub loop-p-preserved : goal.loop-p-preserved
loop-p-preserved c =
    let plan = c.args.plan.now in
    let leaf = c.args.leaf in
    let before = c.args.takers.now.items in
    let k = c.loop-p.p in
    let now = c.loop-p.takers.items in
    let feeds = c.loop-p.feeds.items in
    elim c.if-is_attached.branch [
      | then-is_attached+in-Some+in_ok-push-in-Some w ↦
          let own : leaf_of plan k ≡ Some leaf =
          is_its_number leaf (leaf_of plan k) (sym c.is_attached.ensures ∙ w.if-is_attached.true) in
          let there = c.requires.there k own in
          let found =
          its_taker plan leaf before now k feeds c.loop-p.invariant there.0 there.1 w.index_mut.result.now
          w.index_mut.ensures.value w.in-Some.taker (sym w.take.ensures.value ∙ w.in-Some.is) in
          let one =
          one_taken plan leaf before now k feeds w.new.result c.loop-p.invariant own w.new.ensures.process
          w.new.ensures.next w.new.ensures.ended w.new.ensures.lost
          (subst (λ (t : TakeSide). IsTakerAt before k t) (sym w.new.ensures.taker) found) in
          let ends : c.if-is_attached.takers.items ≡ slice_set now k None =
          ap (λ (v : Vec (Option TakeSide) Global). v.items) w.takers-is
          ∙ ap (λ (e : Option TakeSide). slice_set now k e) w.take.ensures.after in
          let taken : c.if-is_attached.feeds.items ≡ feeds ++ w.new.result ∷ [] =
          ap (λ (v : Vec Feed Global). v.items) w.feeds-is ∙ w.in_ok-push-in-Some.ensures.items in
          rw (ends, taken) one
      | else-is_attached w ↦
          let other : leaf_of plan k ≢ Some leaf =
          is_not_its_number leaf (leaf_of plan k) (sym c.is_attached.ensures ∙ w.if-is_attached.false) in
          let none = not_taken plan leaf before now k feeds c.loop-p.invariant other in
          rw (w.takers-is, w.feeds-is) none
    ]
