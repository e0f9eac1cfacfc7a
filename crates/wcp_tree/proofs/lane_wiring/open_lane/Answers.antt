use Rattle.wcp_tree.proofs.Words.{◌≡◌, ◌≤◌, List, map, sym, ap, subst, ◌∙◌, lit≤, arith, list_any, most_cap, most_lane}
use Rattle.wcp_tree.proofs.Words.{new_putter, AreMemberSets, IsFirstLaneFault, Numbers, some_relays, capacity}
use Rattle.std.specs.FinSet as set
use Rattle.wcp_lane.specs.declared.fault.LaneFault.{LaneFault}
use Rattle.wcp_lane.specs.declared.fault.LaneFault.TheVariants.{Cap, MemberSets}
use Rattle.wcp_tree.proofs.MemberSets.{seats_of_member_sets, member_sets_apart, member_sets_together}
use Rattle.wcp_tree.proofs.lane_wiring.open_lane.Goals as goal

pub returns-in-Ok-clause-seated : goal.returns-in-Ok-clause-seated
returns-in-Ok-clause-seated c = λ relay child.
    let ends : c.in-Ok.putters.items ≡ map (new_putter c.in-Ok.taker.lane) c.in_ok-member_sets.member_sets.items =
    c.in-Ok.ensures.putters
    ∙ ap (λ (sets : List Numbers). map (new_putter c.in-Ok.taker.lane) sets) c.deref.ensures.value in
    let seat =
    seats_of_member_sets c.args.plan.now c.args.owner c.requires.checked c.in_ok-member_sets.member_sets.items
    c.in_ok-member_sets.ensures.all c.in_ok-member_sets.ensures.sets c.in-Ok.taker.lane c.in-Ok.putters.items ends relay
    child in
    (seat.0, c.seat.ensures.seated relay seat.0 child seat.1, seat.2)

pub returns-in-Ok-clause-members : goal.returns-in-Ok-clause-members
returns-in-Ok-clause-members c =
    member_sets_together c.args.plan.now c.args.owner c.requires.checked c.in_ok-member_sets.member_sets.items
    c.in_ok-member_sets.ensures.all c.in_ok-member_sets.ensures.sets c.in-Ok.taker.members
    (λ p.
    c.in-Ok.ensures.members p
    ∙ ap (λ (sets : List Numbers). list_any (λ numbers. set.contains numbers p) sets) c.deref.ensures.value)

pub unreachable-requires : goal.unreachable-requires
unreachable-requires c =
    let none : IsFirstLaneFault c.args.plan.now.cap c.deref.result.now Cap =
    subst (λ (f : LaneFault). IsFirstLaneFault c.args.plan.now.cap c.deref.result.now f) c.in-Err-Cap.field-0-is
    c.in-Err-Cap.ensures.fault in
    let most : most_cap ≤ most_lane = lit≤ tt in
    let fits = capacity c.args.plan.now c.requires.checked in
    none.holds (fits.0, omega (arith, fits.1, most))

pub unreachable-requires-in-Err-MemberSets : goal.unreachable-requires-in-Err-MemberSets
unreachable-requires-in-Err-MemberSets c =
    let none : IsFirstLaneFault c.args.plan.now.cap c.deref.result.now MemberSets =
    subst (λ (f : LaneFault). IsFirstLaneFault c.args.plan.now.cap c.deref.result.now f) c.in-Err-MemberSets.field-0-is
    c.in-Err-MemberSets.ensures.fault in
    let some = some_relays c.args.plan.now c.requires.checked in
    let apart =
    member_sets_apart c.args.plan.now c.args.owner c.requires.checked c.in_ok-member_sets.member_sets.items
    c.in_ok-member_sets.ensures.all c.in_ok-member_sets.ensures.sets in
    let are : AreMemberSets c.in_ok-member_sets.member_sets.items =
    (omega (arith, some, c.in_ok-member_sets.ensures.all), apart) in
    none.holds (subst (λ (sets : List Numbers). AreMemberSets sets) (sym c.deref.ensures.value) are)
