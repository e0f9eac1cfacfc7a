-- The children of an owner take their seats, from the last relay to the first.
use Rattle.wcp_tree.proofs.Words.{◌≡◌, ◌≢◌, ℕ, ◌+◌, ◌<◌, ◌≤◌, List, [], ◌∷◌, ◌++◌, length, Option, Some, sym, ap, ◌∙◌}
use Rattle.wcp_tree.proofs.Words.{arith, common_steps, gets, slice_get, slice_set, cases_eq, length-set, length_push}
use Rattle.wcp_tree.proofs.Words.{Parent, Plan, parent_of}

module _ {X : Type 0} (plan : Plan) (owner : Parent) (ends : List X) (before : List (Option X)) where
  -- these ends are left to be given, and the children from the next one on are seated
  pub record AreSeated (now : List (Option X)) (left : List X) : Type 0 where
    pub within : length left ≤ length plan.parents.items
    pub room : length before ≡ length plan.parents.items
    pub all : length now ≡ length before
    pub kept : (relay : ℕ) → relay < length left → slice_get left relay ≡ slice_get ends relay
    pub seated : (relay : ℕ) (end : X) → length left ≤ relay → parent_of plan relay ≡ Some owner
        → slice_get ends relay ≡ Some end → slice_get now relay ≡ Some (Some end)
    pub others : (relay : ℕ) → parent_of plan relay ≢ Some owner → slice_get now relay ≡ slice_get before relay

  module _ (now : List (Option X)) (left rest : List X) (end : X) (seats : AreSeated now left)
      (is : left ≡ rest ++ end ∷ []) where
    one_fewer : length left ≡ length rest + 1
    one_fewer = ap length is ∙ length_push rest end

    its_end : slice_get ends (length rest) ≡ Some end
    its_end = grind (arith, common_steps, gets, one_fewer, is, seats.kept (length rest))

    kept_rest : (relay : ℕ) → relay < length rest → slice_get rest relay ≡ slice_get ends relay
    kept_rest relay below = grind (arith, common_steps, gets, one_fewer, is, seats.kept relay)

    last_seated : parent_of plan (length rest) ≡ Some owner → AreSeated (slice_set now (length rest) (Some end)) rest
    last_seated child = record {
      within = omega (arith, seats.within, one_fewer);
      room = seats.room;
      all = length-set now (length rest) (Some end) ∙ seats.all;
      kept = kept_rest;
      seated = λ relay other past at is_end.
          grind (
            arith,
            common_steps,
            gets,
            one_fewer,
            its_end,
            past,
            at,
            is_end,
            seats.within,
            seats.room,
            seats.all,
            seats.seated relay other,
            cases_eq relay (length rest),
          );
      others =
          λ relay other. grind (arith, common_steps, gets, child, seats.others relay, cases_eq relay (length rest));
    }

    -- the relay of the last end is a child, and takes its seat
    pub one_seated : (last : ℕ) → last ≡ length rest → parent_of plan last ≡ Some owner
        → AreSeated (slice_set now last (Some end)) rest
    one_seated last is_last child = rw is_last (last_seated (rw (sym is_last) child))

    -- it is no child
    pub none_seated : (last : ℕ) → last ≡ length rest → parent_of plan last ≢ Some owner → AreSeated now rest
    none_seated last is_last no_child = record {
      within = omega (arith, seats.within, one_fewer);
      room = seats.room;
      all = seats.all;
      kept = kept_rest;
      seated = λ relay other past at is_end.
          grind (
            arith,
            common_steps,
            one_fewer,
            past,
            at,
            is_end,
            is_last,
            no_child,
            seats.seated relay other,
            cases_eq relay (length rest),
          );
      others = seats.others;
    }
