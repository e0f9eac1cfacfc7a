use Rattle.wcp_relay.proofs.Words.{◌≡◌, Bool, false, true, true≢false, ap, ◌∙◌, sym, refl, subst, Feed, IsInOrder}
use Rattle.wcp_relay.proofs.Words.{MayComeFromRing, All-push}
use Rattle.wcp_relay.proofs.Ordering.{given_more, in_order_snap, in_order_last, in_order_lost, in_order_same}
use Rattle.wcp_relay.proofs.Ordering.{out_of_turn, place_in_turn}
use Rattle.wcp_relay.proofs.feed.Feed.take.Goals as goal
use Rattle.wcp_relay.proofs.feed.Feed.take.Goals.{then-is_last, else-is_last, then-self-2-via-then-self-2}
use Rattle.wcp_relay.proofs.feed.Feed.take.Goals.{then-self-2-via-else-self-2+then-not-may_come}

pub returns-in-Err-ForGood-clause-in_order : goal.returns-in-Err-ForGood-clause-in_order
returns-in-Err-ForGood-clause-in_order c = by_end c.args.self.now.ended refl
  where
    by_end : (ended : Bool) → c.args.self.now.ended ≡ ended → IsInOrder c.lose.new.self
    by_end true ended =
        subst IsInOrder (sym (c.lose.ensures.ended ended).1)
        (in_order_same c.args.self.now c.look.new.taker c.requires c.in-Err-ForGood.ensures.empty)
    by_end false ended =
        subst IsInOrder (sym (c.lose.ensures.lost ended).1)
        (in_order_lost c.args.self.now c.look.new.taker c.requires ended c.in-Err-ForGood.ensures.empty)

pub returns-then-self-2-clause-gap : goal.returns-then-self-2-clause-gap
returns-then-self-2-clause-gap c =
    let feed = c.args.self.now in
    let more : Feed = record feed { taker = c.look.new.taker } in
    let note = c.in-Ok.note in
    let given = given_more feed more note c.if-self.false c.if-self.false c.in-Ok.ensures.note in (
      refl,
      (
        note,
        given,
        λ next. elim c.then-self-2.branch [
          | then-self-2-via-then-self-2 w ↦ out_of_turn feed note c.requires w.if-self-2.true next.next
          | then-self-2-via-else-self-2+then-not-may_come w ↦
              let place = place_in_turn feed note c.requires w.if-self-2.false next.next in
              true≢false (sym (w.may_come.ensures.1 (place, next.may_come)) ∙ w.if-not-may_come.true)
        ],
      ),
    )

pub returns-clause-in_order : goal.returns-clause-in_order
returns-clause-in_order c =
    let feed = c.args.self.now in
    let more = c.if-is_last.self in
    let note = c.in-Ok.note in
    let (place, may_come) = c.may_come.ensures.0 c.if-not-may_come.false in
    elim c.if-is_last.branch [
      | then-is_last w ↦
          let taken = ap (λ (f : Feed). f.taker.taken) w.self-is ∙ c.in-Ok.ensures.note in
          let not_lost = ap (λ (f : Feed). f.lost) w.self-is ∙ c.if-self.false in
          in_order_last feed more note c.requires c.if-self-2.false place (sym c.is_last.ensures ∙ w.if-is_last.true)
          (given_more feed more note c.if-self.false not_lost taken)
          (rw taken (All-push MayComeFromRing feed.taker.taken note c.requires.from_ring may_come))
          (ap (λ (f : Feed). f.ended) w.self-is)
      | else-is_last w ↦
          in_order_snap feed more note c.requires c.if-self-2.false place may_come
          (sym c.is_last.ensures ∙ w.if-is_last.false)
          (ap (λ (f : Feed). f.taker.taken) w.self-is ∙ c.in-Ok.ensures.note)
          (ap (λ (f : Feed). f.next) w.self-is)
          (ap (λ (f : Feed). f.lost) w.self-is ∙ c.if-self.false)
          (ap (λ (f : Feed). f.ended) w.self-is ∙ c.if-self-2.false)
    ]

pub returns-then-self-2-clause-ring : goal.returns-then-self-2-clause-ring
returns-then-self-2-clause-ring c =
    (c.args.self.now.taker.taken, c.in-Ok.note, c.in-Ok.ensures.note, c.requires.from_ring)
