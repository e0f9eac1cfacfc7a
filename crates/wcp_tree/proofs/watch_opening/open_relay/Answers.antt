use Rattle.wcp_tree.proofs.Words.{◌≡◌, Some, length, sym, ap, subst, ◌∙◌, arith, common_steps, gets, slice_get_within}
use Rattle.wcp_tree.proofs.Words.{slice_get-get_or, Item, Held, PutEnd, Bundle, Source, AreBelow, AreChildrenSeated}
use Rattle.wcp_tree.proofs.Words.{IsSource, hold_room}
use Rattle.wcp_relay.proofs.Entries.{taken_out}
use Rattle.wcp_tree.proofs.Serving.{source_serves}
use Rattle.wcp_tree.proofs.watch_opening.open_relay.Goals as goal

pub new-requires : goal.new-requires
new-requires c = record { some = (hold_room c.args.plan.now c.requires.checked).0 }

pub new-requires-2-clause-room : goal.new-requires-2-clause-room
new-requires-2-clause-room c =
    omega (arith, (hold_room c.args.plan.now c.requires.checked).0, c.in_ok-hold.ensures.room)

pub new-requires-2-clause-nothing_put : goal.new-requires-2-clause-nothing_put
new-requires-2-clause-nothing_put c =
    let one : c.requires.seat.0 ≡ c.in-Some.putter =
    taken_out c.args.seats.now.items c.args.relay c.requires.seat.0 c.requires.seat.1 c.index_mut.result.now
    c.index_mut.ensures.value c.in-Some.putter (sym c.take.ensures.value ∙ c.in-Some.is) in
    ap (λ (p : PutEnd Bundle Item). length p.put) (sym one) ∙ ap length c.requires.seat.3

pub new-requires-2-clause-serves : goal.new-requires-2-clause-serves
new-requires-2-clause-serves c =
    let one : c.requires.seat.0 ≡ c.in-Some.putter =
    taken_out c.args.seats.now.items c.args.relay c.requires.seat.0 c.requires.seat.1 c.index_mut.result.now
    c.index_mut.ensures.value c.in-Some.putter (sym c.take.ensures.value ∙ c.in-Some.is) in
    source_serves c.args.plan.now c.requires.checked c.args.relay c.args.takers.now.items c.in_ok-source.source
    c.in-Some.putter.members c.in_ok-source.ensures.source
    (subst (λ (p : PutEnd Bundle Item). AreBelow c.args.plan.now c.args.relay p.members) one c.requires.seat.2)

pub returns-clause-relay : goal.returns-clause-relay
returns-clause-relay c =
    let one : c.requires.seat.0 ≡ c.in-Some.putter =
    taken_out c.args.seats.now.items c.args.relay c.requires.seat.0 c.requires.seat.1 c.index_mut.result.now
    c.index_mut.ensures.value c.in-Some.putter (sym c.take.ensures.value ∙ c.in-Some.is) in
    let its : c.requires.seat.0 ≡ c.new-2.result.putter = one ∙ sym c.new-2.ensures.putter in
    record {
      number = c.new-2.ensures.number;
      watch = c.new-2.ensures.watch;
      parent = slice_get-get_or c.args.plan.now.parents.items c.args.relay c.index-parent.result.now
          (omega (arith, slice_get_within c.args.seats.now.items c.args.relay _ c.requires.seat.1))
          ∙ ap Some (sym c.index-parent.ensures ∙ sym c.new-2.ensures.parent);
      source = subst (λ (s : Source). IsSource c.args.plan.now c.args.takers.now.items c.args.relay s)
          (sym c.new-2.ensures.source) c.in_ok-source.ensures.source;
      members =
          subst (λ (p : PutEnd Bundle Item). AreBelow c.args.plan.now c.args.relay p.members) its c.requires.seat.2;
      none_put = ap (λ (p : PutEnd Bundle Item). p.put) (sym its) ∙ c.requires.seat.3;
      none_held = ap (λ (h : Held). h.items) c.new-2.ensures.hold ∙ c.in_ok-hold.ensures.items;
      room = ap (λ (h : Held). h.room) c.new-2.ensures.hold ∙ c.in_ok-hold.ensures.room;
    }

pub returns-clause-seat : goal.returns-clause-seat
returns-clause-seat c =
    let one : c.requires.seat.0 ≡ c.in-Some.putter =
    taken_out c.args.seats.now.items c.args.relay c.requires.seat.0 c.requires.seat.1 c.index_mut.result.now
    c.index_mut.ensures.value c.in-Some.putter (sym c.take.ensures.value ∙ c.in-Some.is) in
    c.requires.seat.1 ∙ ap (λ (p : PutEnd Bundle Item). Some (Some p)) (one ∙ sym c.new-2.ensures.putter)

pub returns-clause-seated : goal.returns-clause-seated
returns-clause-seated c =
    subst (λ (s : Source). AreChildrenSeated c.args.plan.now c.args.relay s c.open_source.new.seats.items)
    (sym c.new-2.ensures.source) c.in_ok-source.ensures.seated

pub returns-clause-other_seats : goal.returns-clause-other_seats
returns-clause-other_seats c = λ other apart no_child.
    grind (arith, common_steps, gets, apart, c.in_ok-source.ensures.other_seats other no_child)
