use Rattle.wcp_lane.proofs.Words.{◌≡◌, ◌+◌, not, ◌||◌, take, map, List, sym, ap, ◌∙◌, arith, [], ◌∷◌, ◌++◌}
use Rattle.wcp_lane.proofs.Words.{nat_cmp_total, flat_map, common_steps, take_all, map-append, list_any_more, Numbers}
use Rattle.wcp_lane.proofs.Words.{lane_of, unowned_by, put_by, new_putter, PutEnd}
use Rattle.std.specs.FinSet as set
use Rattle.wcp_lane.proofs.Counting.{counts_of_none}
use Rattle.wcp_lane.proofs.Sets.{any_has, none_before, within_read, rest_of}
use Rattle.wcp_lane.proofs.Steps.{begins, all_numbers-contains}
use Rattle.wcp_lane.proofs.opening.open.Goals as goal

pub bounded_with-requires-clause-rule : goal.bounded_with-requires-clause-rule
bounded_with-requires-clause-rule g c = begins g.M.Origin.items g.M.Origin.origin g.M.Origin.place g.M.Origin.last

pub loop-numbers-init : goal.loop-numbers-init
loop-numbers-init g c =
    let made = c.in_ok-sender.ensures in
    record {
      seat = made.2;
      knows = rw made.3;
      rest = λ p below. rw made.3 (all_numbers-contains p below);
      made = c.in_ok-putters.ensures.items;
    }

pub give-own-requires-clause-among : goal.give-own-requires-clause-among
give-own-requires-clause-among g c = λ p below member.
    c.loop-numbers.invariant.rest p below
    ∙ ap not (none_before _ _ _ c.requires.apart c.loop-numbers-test.true c.numbers-item.is p member)

pub invariant_of-push : goal.invariant_of-push
invariant_of-push g c =
    let given = c.give-own.ensures.putter in (
      rw (c.in_ok-try_clone.ensures) c.give-own.ensures.lane.1,
      rw given,
      within_read _ _ _ c.requires.within c.loop-numbers-test.true c.numbers-item.is,
      counts_of_none g.M.Origin.origin _ (rw given),
    )

pub loop-numbers-preserved : goal.loop-numbers-preserved
loop-numbers-preserved g c =
    let old = c.loop-numbers.invariant in
    let numbers = c.numbers-item.result in
    let k = c.loop-numbers.numbers-index in
    let member_sets = c.args.member_sets.now in
    let (seat, own) = c.give-own.ensures.lane in
    let left = c.give-own.ensures.taker in
    let given = c.give-own.ensures.putter in
    let more : take (k + 1) member_sets ≡ take k member_sets ++ numbers ∷ [] = grind (arith, common_steps) in
    let new : List Numbers
    → List (PutEnd g.row.M.Denot g.row.M-Item.Denot) = map (new_putter (lane_of c.give-own.new.pass)) in
    record {
      seat = seat;
      knows = rw left;
      rest = λ p below.
          ap (λ v. set.contains (unowned_by v) p) left
          ∙ set.contains-difference nat_cmp_total _ numbers p
          ∙ rest_of _ _ (set.contains numbers p) (old.rest p below)
          ∙ ap not
          (sym (list_any_more (λ (s : Numbers). set.contains s p) member_sets k numbers c.loop-numbers-test.true
          ∙ (λ i. any_has p (take k member_sets) || set.contains (sym c.numbers-item.is i) p)));
      made =
          c.in_ok-push.ensures.items
          ∙ (λ i. (old.made ∙ (λ j. map (new_putter ((old.seat.0 ∙ sym seat.0) j, (old.seat.1 ∙ sym seat.1) j))
          (take k member_sets))) i
          ++ record {
            lane = ((own.0 ∙ sym seat.0) i, (own.1 ∙ sym seat.1) i);
            members = numbers;
            messages = put_by (given i);
            put = flat_map g.M.Origin.items (put_by (given i));
          } ∷ [])
          ∙ sym (ap new more ∙ map-append _ (take k member_sets) (numbers ∷ []));
    }

pub invariant_of-taker : goal.invariant_of-taker
invariant_of-taker g c =
    let old = c.loop-numbers.invariant in (
      rw (c.in_ok-sender.ensures.0) old.seat,
      rw old.knows,
      λ p below. old.rest p below
          ∙ ap not (ap (any_has p) (take_all _ _ c.loop-numbers-test.false) ∙ sym (c.requires.all p)),
      counts_of_none g.M.Origin.origin _ (rw old.knows),
    )
