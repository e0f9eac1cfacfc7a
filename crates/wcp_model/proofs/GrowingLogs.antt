use Rattle.wcp_model.proofs.Words.{◌≡◌, ℕ, zero, suc, ◌+◌, ◌⊎◌, List, [], ◌∷◌, ◌++◌, length, slice_get, Some, refl, sym}
use Rattle.wcp_model.proofs.Words.{subst, inl, inr, arith, filter, filter-append, Step, Send, Recv, Close, Computation}
use Rattle.wcp_model.proofs.Words.{interval_at, Call, is_step_of, IsStampOf, IsCallOf, AreCallsOf, IsLogOf, IsAccepted}
use Rattle.wcp_model.proofs.Words.{IsStateClock}
use Rattle.wcp_model.proofs.EventPlaces.{event_of_send, event_below}
use Rattle.wcp_model.proofs.Predecessors.{local_state}
use Rattle.wcp_model.proofs.Growth.{at_grows, interval_grows, message_grows, clock_grows}

-- the clock after a send stays that of its state
pub send_clock_grows : (n : ℕ) (c e : Computation) (p to sent : ℕ) (clock : List ℕ)
    → slice_get c sent ≡ Some (Send p to) → IsStateClock n c (local_state p (interval_at c p sent + 1)) clock
    → IsStateClock n (c ++ e) (local_state p (interval_at (c ++ e) p sent + 1)) clock
send_clock_grows n c e p to sent clock send is =
    subst (λ k. IsStateClock n (c ++ e) (local_state p (k + 1)) clock)
    (sym (interval_grows c e p sent (Send p to) send))
    (clock_grows n c e (local_state p (interval_at c p sent + 1)) clock (omega (
      arith,
      event_below c p (interval_at c p sent) sent (event_of_send c p (interval_at c p sent) to sent send refl),
    )) is)

-- a stamp stays that of its message
pub stamp_grows : (n : ℕ) (c e : Computation) (message : ℕ) (stamp : List ℕ) → IsStampOf n c message stamp
    → IsStampOf n (c ++ e) message stamp
stamp_grows n c e message stamp is = grind (arith, at_grows, message_grows, send_clock_grows)

-- a call stays that of its step
call_grows : (n : ℕ) (c e : Computation) (x : Step) (call : Call) → IsCallOf n c x call → IsCallOf n (c ++ e) x call
call_grows n c e x call is = grind (arith, stamp_grows)

calls_grow : (n : ℕ) (c e : Computation) (steps : List Step) (log : List Call) → AreCallsOf n c steps log
    → AreCallsOf n (c ++ e) steps log
calls_grow n c e [] [] are = are
calls_grow n c e [] (call ∷ log) are = absurd are
calls_grow n c e (x ∷ steps) [] are = absurd are
calls_grow n c e (x ∷ steps) (call ∷ log) are = (call_grows n c e x call are.0, calls_grow n c e steps log are.1)

calls_append : (n : ℕ) (c : Computation) (steps others : List Step) (log more : List Call) → AreCallsOf n c steps log
    → AreCallsOf n c others more → AreCallsOf n c (steps ++ others) (log ++ more)
calls_append n c [] others [] more are also = also
calls_append n c [] others (call ∷ log) more are also = absurd are
calls_append n c (x ∷ steps) others [] more are also = absurd are
calls_append n c (x ∷ steps) others (call ∷ log) more are also =
    (are.0, calls_append n c steps others log more are.1 also)

-- the log of a longer computation
pub log_grows : (n : ℕ) (c e : Computation) (p : ℕ) (log more : List Call) → IsLogOf n c p log
    → AreCallsOf n (c ++ e) (filter (is_step_of p) e) more → IsLogOf n (c ++ e) p (log ++ more)
log_grows n c e p log more is also = grind (arith, calls_append, calls_grow, filter-append)

-- the front of accepted steps is accepted
pub accepted_prefix : (c e : Computation) → IsAccepted (c ++ e) → IsAccepted c
accepted_prefix c e accepted = record {
  sent_first =
      λ place p message at. omega (
        arith,
        accepted.sent_first place p message (at_grows c e place (Recv p message) at),
        message_grows c e place (Recv p message) at,
      );
  close_last = λ place later p x below at also. accepted.close_last place later p x below
      (at_grows c e place (Close p) at) (at_grows c e later x also);
}

-- an element of a list with one more at its end is an earlier one, or that
pub get_push : {X : Type 0} (xs : List X) (y z : X) (i : ℕ) → slice_get (xs ++ y ∷ []) i ≡ Some z →
    (slice_get xs i ≡ Some z) ⊎ ((i ≡ length xs) × (y ≡ z))
get_push [] y z zero at = inr (refl, cc)
get_push [] y z (suc i) at = cc
get_push (x ∷ xs) y z zero at = inl at
get_push (x ∷ xs) y z (suc i) at = grind (arith, get_push xs y z i at)
