use Rattle.wcp_tree.proofs.Words.{◌≡◌, ◌<◌, ◌≤◌, length, vec_len, eqb-true, sym, ap, ◌∙◌, lit≤, arith, length_push}
use Rattle.wcp_tree.proofs.Words.{most_relays, attached_exists, few_relays}
use Rattle.wcp_tree.proofs.Linking.{all_opened, next_seat, none_open, one_opened}
use Rattle.wcp_tree.proofs.watch_opening.open_relays.Goals as goal

pub loop-alloc-init : goal.loop-alloc-init
loop-alloc-init c =
    record {
      count = omega (arith, ap length c.in_ok-relays.ensures.items, c.requires.sleepers);
      seats = c.requires.all;
      opened = λ root under.
          rw c.in_ok-relays.ensures.items
          (none_open c.args.plan.now c.args.watch root c.args.takers.items c.args.seats.items under);
    }

pub overflow_cast-number : goal.overflow_cast-number
overflow_cast-number c =
    let most : most_relays ≤ 15 = lit≤ tt in
    omega (arith, few_relays c.args.plan.now c.requires.checked, c.loop-alloc.invariant.count, most)

pub open_relay-requires-clause-seat : goal.open_relay-requires-clause-seat
open_relay-requires-clause-seat c =
    let root = c.requires.seated.0 in
    let within : length c.loop-alloc.relays.items < length c.args.plan.now.parents.items =
    omega (arith, c.loop-alloc.invariant.count, c.remove-sleeper.ensures.len) in
    let next =
    next_seat c.args.plan.now c.args.watch root c.args.takers.items c.requires.checked c.loop-alloc.relays.items
    c.loop-alloc.seats.items c.loop-alloc.takers.items
    (c.loop-alloc.invariant.opened root c.requires.seated.1) within in
    let number : c.len-number.result ≡ length c.loop-alloc.relays.items = omega arith in
    rw number (next.2.2, next.2.3, next.2.4.members, next.2.4.empty)

pub open_relay-requires-clause-there : goal.open_relay-requires-clause-there
open_relay-requires-clause-there c = λ p at.
    let root = c.requires.seated.0 in
    let there = c.requires.there p (attached_exists c.args.plan.now c.requires.checked p _ at).0 in
    let here = (c.loop-alloc.invariant.opened root c.requires.seated.1).here p _ at (omega arith) in
    (there.0, (here ∙ there.1.0, there.1.1))

pub loop-alloc-preserved : goal.loop-alloc-preserved
loop-alloc-preserved c =
    let within : length c.loop-alloc.relays.items < length c.args.plan.now.parents.items =
    omega (arith, c.loop-alloc.invariant.count, c.remove-sleeper.ensures.len) in
    let number : c.len-number.result ≡ length c.loop-alloc.relays.items = omega arith in
    let ends = c.in_ok-relay.ensures in
    record {
      count = omega (
        arith,
        c.loop-alloc.invariant.count,
        c.remove-sleeper.ensures.len,
        ap length c.in_ok-push.ensures.items,
        length_push c.loop-alloc.relays.items c.in_ok-relay.relay,
      );
      seats = ends.all.0 ∙ c.loop-alloc.invariant.seats;
      opened = λ root under.
          rw c.in_ok-push.ensures.items
          (one_opened c.args.plan.now c.args.watch root c.args.takers.items c.requires.checked
          c.loop-alloc.relays.items c.loop-alloc.seats.items c.open_relay.new.seats.items c.loop-alloc.takers.items
          c.open_relay.new.takers.items c.in_ok-relay.relay (c.loop-alloc.invariant.opened root under) within
          (rw number at ends.relay) (rw number at ends.seat) (rw number at ends.seated) (rw number at ends.other_seats)
          (rw number at ends.other_takers));
    }

pub returns : goal.returns
returns c = λ root under.
    all_opened c.args.plan.now c.args.watch root c.args.takers.items c.loop-alloc.relays.items c.loop-alloc.seats.items
    c.loop-alloc.takers.items (c.loop-alloc.invariant.opened root under)
    (omega (
      arith,
      c.loop-alloc.invariant.count,
      eqb-true (vec_len c.loop-alloc.sleepers) 0 (sym c.is_empty.ensures ∙ c.loop-alloc-test.false),
    ))
