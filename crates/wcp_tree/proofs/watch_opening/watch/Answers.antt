use Rattle.wcp_tree.proofs.Words.{◌≡◌, ◌≤◌, ◌↔◌, ◌<◌, ℕ, true, sym, ap, subst, ◌∙◌, lit≤, arith, most_relays, Item}
use Rattle.wcp_tree.proofs.Words.{TakeEnd, Bundle, AreLinked, few_relays}
use Rattle.std.specs.FinSet as set
use Rattle.wcp_tree.proofs.Serving.{all_below_root}
use Rattle.wcp_tree.proofs.watch_opening.watch.Goals as goal

pub open_relays-requires-clause-seated : goal.open_relays-requires-clause-seated
open_relays-requires-clause-seated c = (c.in_ok-taker.taker.lane, c.in_ok-taker.ensures.seated)

pub open_relays-requires-clause-there : goal.open_relays-requires-clause-there
open_relays-requires-clause-there c = λ p below.
    let ring = c.in_ok-probes.ensures.each p below in (ring.taker, ring.is_taker)

pub overflow_cast-len : goal.overflow_cast-len
overflow_cast-len c =
    let most : most_relays ≤ 15 = lit≤ tt in
    let linked = c.in_ok-relays.ensures c.in_ok-taker.taker.lane c.in_ok-taker.ensures.seated in
    omega (arith, few_relays c.args.plan.now c.requires, linked.count, most)

pub returns : goal.returns
returns c =
    let same : c.in_ok-taker.taker ≡ c.new-inbox.result.taker = sym c.new-inbox.ensures.taker in
    let linked = c.in_ok-relays.ensures c.in_ok-taker.taker.lane c.in_ok-taker.ensures.seated in
    record {
      takers = c.in_ok-probes.takers.items;
      rings = c.in_ok-probes.ensures;
      linked = subst
          (λ (t : TakeEnd Bundle Item). AreLinked c.args.plan.now c.args.watch_number t.lane c.in_ok-probes.takers.items
          c.in_ok-relays.relays.items)
          same linked;
      number = c.new-inbox.ensures.watch;
      relays = c.new-inbox.ensures.relays ∙ omega (arith, linked.count);
      members = subst
          (λ (t : TakeEnd Bundle Item). (p : ℕ) → (set.contains t.members p ≡ true) ↔ (p < c.args.plan.now.n))
          same
          (all_below_root c.args.plan.now c.requires c.in_ok-taker.taker.members c.in_ok-taker.ensures.members);
      none_taken = ap (λ (t : TakeEnd Bundle Item). t.taken) (sym same) ∙ c.in_ok-taker.ensures.empty;
      room = ap (λ (t : TakeEnd Bundle Item). t.room) (sym same) ∙ c.in_ok-taker.ensures.room;
    }
