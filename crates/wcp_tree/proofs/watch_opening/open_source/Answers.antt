use Rattle.wcp_tree.proofs.Words.{◌≡◌, true, false, refl, sym, ◌∙◌, is_leaf}
use Rattle.wcp_tree.proofs.Serving.{no_children, below_by_children}
use Rattle.wcp_tree.proofs.watch_opening.open_source.Goals as goal

pub returns-then-is_leaf-clause-seated : goal.returns-then-is_leaf-clause-seated
returns-then-is_leaf-clause-seated c = λ child at.
    let leaf : is_leaf c.args.plan.now c.args.relay ≡ true = sym c.is_leaf.ensures ∙ c.if-is_leaf.true in
    absurd (no_children c.args.plan.now c.requires.checked c.args.relay leaf child at)

pub returns-clause-source : goal.returns-clause-source
returns-clause-source c =
    let inner : is_leaf c.args.plan.now c.args.relay ≡ false = sym c.is_leaf.ensures ∙ c.if-is_leaf.false in (
      inner,
      c.in_ok-taker.ensures.empty,
      below_by_children c.args.plan.now c.requires.checked c.args.relay inner c.in_ok-taker.taker.members
          c.in_ok-taker.ensures.members,
      c.in_ok-taker.ensures.room,
    )

pub returns-clause-seated : goal.returns-clause-seated
returns-clause-seated c = λ child at.
    let seat = c.in_ok-taker.ensures.seated child at in
    (c.in_ok-taker.taker.lane, refl, seat.0, seat.1, seat.2)
