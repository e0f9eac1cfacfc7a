use Rattle.wcp_model.proofs.Words.{NumberSet, Flag, ◌≡◌, ℕ, ◌<◌, true, false, [], ◌∷◌, ◌++◌, length, slice_get}
use Rattle.wcp_model.proofs.Words.{count_by, Some, refl, eq-eqb, arith, length_push, take_at, list_any_at}
use Rattle.wcp_model.proofs.Words.{Any-from_list_any, slice_get_within, slice_get-get_or, get_or_from_slice_get, Step}
use Rattle.wcp_model.proofs.Words.{Observe, Recv, Close, Computation, IsTrueState, is_send, is_closed, is_step_of}
use Rattle.wcp_model.proofs.Words.{IsAccepted, common_steps, gets}
use Rattle.wcp_model.proofs.Growth.{get_front, get_behind, at_grows, message_grows, true_state_of_prefix}
use Rattle.wcp_model.proofs.Predecessors.{local_state}
use Rattle.wcp_model.proofs.RunningEmissions.{NoneNew, emitted_state_of_prefix}

-- a close that stands in a computation closes its process
pub close_closes : (c : Computation) (place p : ℕ) → slice_get c place ≡ Some (Close p) → is_closed c p ≡ true
close_closes c place p at =
    grind (arith, common_steps, gets, list_any_at, slice_get_within, get_or_from_slice_get, eq-eqb)

-- and where a process is closed, its close stands
pub close_stands : (c : Computation) (p : ℕ) → is_closed c p ≡ true
    → (place : ℕ) × (place < length c) × (slice_get c place ≡ Some (Close p))
close_stands c p closed = grind (arith, Any-from_list_any, slice_get-get_or)

-- after the close of a process none of its states becomes true
pub none_new_after_close : (watched : NumberSet) (flag : Flag) (c e : Computation) (p : ℕ) → IsAccepted (c ++ e)
    → is_closed c p ≡ true → NoneNew watched flag c e p
none_new_after_close watched flag c e p accepted closed k is =
    let close = close_stands c p closed in
    let close_last = accepted.close_last close.0 is.true_state.place p (Observe p true) in
    let was : IsTrueState c (local_state p k) =
    grind (
      arith,
      true_state_of_prefix c e (local_state p k) is.true_state,
      close_last,
      at_grows c e close.0 (Close p) close.2,
      eq-eqb p p refl,
    ) in
    emitted_state_of_prefix watched flag c e (local_state p k) was is

-- an accepted computation, and one more step of a process that is open; what it receives was sent
pub accepted_push : (c : Computation) (s : Step) → IsAccepted c
    → ((p : ℕ) → is_step_of p s ≡ true → is_closed c p ≡ false)
    → ((p message : ℕ) → s ≡ Recv p message → message < count_by is_send c) → IsAccepted (c ++ s ∷ [])
accepted_push c s accepted is_open was_sent =
    grind (arith, get_behind c s, get_front, length_push c s, message_grows, slice_get_within, take_at, close_closes)
