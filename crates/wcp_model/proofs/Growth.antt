use Rattle.wcp_model.proofs.Words.{common_steps, ◌≡◌, ℕ, zero, suc, ◌+◌, ◌<◌, ◌≤◌, Bool, List, [], ◌∷◌, ◌++◌, length}
use Rattle.wcp_model.proofs.Words.{take, slice_get, count_by, Some, refl, sym, ap, ◌∙◌, arith, take-append-le, take_at}
use Rattle.wcp_model.proofs.Words.{slice_get_within, State, Step, Send, Recv, Computation, IsState, IsTrueState}
use Rattle.wcp_model.proofs.Words.{is_communication_of, is_send, communications, interval_at, message_at, IsMessage}
use Rattle.wcp_model.proofs.Words.{DirectlyPrecedes, HappenedBefore, Direct, Chain, IsStampOf, IsStateClock, gets}
use Rattle.wcp_model.proofs.EventPlaces.{event_of_send, event_below}
use Rattle.wcp_model.proofs.Predecessors.{before_from_state}
use Rattle.wcp_model.proofs.Places.{count_before-mono}

-- an element of the front of a list stands there in the whole
pub get_front : {X : Type 0} (xs ys : List X) (i : ℕ) → i < length xs → slice_get (xs ++ ys) i ≡ slice_get xs i
get_front [] ys i lt = absurd (omega arith)
get_front (x ∷ xs) ys zero lt = refl
get_front (x ∷ xs) ys (suc i) lt = get_front xs ys i (omega arith)

-- the rest begins behind the front
pub get_behind : {X : Type 0} (xs : List X) (y : X) (ys : List X) → slice_get (xs ++ y ∷ ys) (length xs) ≡ Some y
get_behind [] y ys = refl
get_behind (x ∷ xs) y ys = get_behind xs y ys

-- as many elements stand before a place of the front as in the front alone
pub count_prefix : {X : Type 0} (test : X → Bool) (xs ys : List X) (i : ℕ) → i ≤ length xs
    → count_by test (take i (xs ++ ys)) ≡ count_by test (take i xs)
count_prefix test xs ys i le = ap (count_by test) (take-append-le i xs ys le)

-- a place with fewer before it than the front has lies in the front
pub in_front : {X : Type 0} (test : X → Bool) (xs ys : List X) (i : ℕ)
    → count_by test (take i (xs ++ ys)) < count_by test xs → i < length xs
in_front test xs ys i few =
    grind (arith, count_before-mono test (xs ++ ys) (length xs) i, take_at xs ys (length xs) refl)

-- a step of the front stands there in the whole
pub at_grows : (c e : Computation) (place : ℕ) (x : Step) → slice_get c place ≡ Some x
    → slice_get (c ++ e) place ≡ Some x
at_grows c e place x at = get_front c e place (slice_get_within c place x at) ∙ at

-- the interval at its place is that of the front
pub interval_grows : (c e : Computation) (p place : ℕ) (x : Step) → slice_get c place ≡ Some x
    → interval_at (c ++ e) p place ≡ interval_at c p place
interval_grows c e p place x at =
    count_prefix (is_communication_of p) c e place (omega (arith, slice_get_within c place x at))

-- and so is the number of a message that is sent there
pub message_grows : (c e : Computation) (place : ℕ) (x : Step) → slice_get c place ≡ Some x
    → message_at (c ++ e) place ≡ message_at c place
message_grows c e place x at = count_prefix is_send c e place (omega (arith, slice_get_within c place x at))

-- a message stays one in a longer computation
pub is_message_grows : (c e : Computation) (s t : State) → IsMessage c s t → IsMessage (c ++ e) s t
is_message_grows c e s t m =
    grind (
      arith,
      common_steps,
      gets,
      at_grows c e m.sent (Send s.process m.to) m.send,
      message_grows,
      interval_grows c e s.process m.sent (Send s.process m.to) m.send,
      interval_grows c e t.process m.received (Recv t.process (message_at c m.sent)) m.receive,
    )

-- direct precedence stays
pub direct_grows : (c e : Computation) (s t : State) → DirectlyPrecedes c s t → DirectlyPrecedes (c ++ e) s t
direct_grows c e s t direct = grind (arith, common_steps, is_message_grows)

-- happened-before stays
pub before_grows : (c e : Computation) (s : State) {t : State} → HappenedBefore c s t → HappenedBefore (c ++ e) s t
before_grows c e s {t = t} (Direct d) = Direct (direct_grows c e s t d)
before_grows c e s {t = u} (Chain {t = t} h d) = Chain (before_grows c e s h) (direct_grows c e t u d)

-- no direct precedence of a state is new, if the state isn't
pub direct_shrinks : (c e : Computation) (s t : State) → IsState c t → DirectlyPrecedes (c ++ e) s t
    → DirectlyPrecedes c s t
direct_shrinks c e s t exists direct = grind (arith, count_prefix, get_front, in_front)

-- nothing new happened before a state that existed
pub before_shrinks : (c e : Computation) (s : State) {t : State} → IsState c t → HappenedBefore (c ++ e) s t
    → HappenedBefore c s t
before_shrinks c e s {t = t} exists (Direct d) = Direct (direct_shrinks c e s t exists d)
before_shrinks c e s {t = u} exists (Chain {t = t} h d) =
    let link : DirectlyPrecedes c t u = direct_shrinks c e t u exists d in
    Chain (before_shrinks c e s (omega (arith, before_from_state c t (Direct link))) h) link

-- the clock of a state that exists stays
pub clock_grows : (n : ℕ) (c e : Computation) (s : State) (clock : List ℕ) → IsState c s → IsStateClock n c s clock
    → IsStateClock n (c ++ e) s clock
clock_grows n c e s clock exists is = grind (arith, before_grows, before_shrinks)

-- and is the one that it had
pub clock_shrinks : (n : ℕ) (c e : Computation) (s : State) (clock : List ℕ) → IsState c s
    → IsStateClock n (c ++ e) s clock → IsStateClock n c s clock
clock_shrinks n c e s clock exists is = record {
  components = is.components;
  own = is.own;
  others = λ q in_range other l. grind (
    arith,
    is.others q in_range other l,
    before_grows c e (record { process = q; interval = l }) {t = s},
    before_shrinks,
  );
}

-- a true state stays true
pub true_state_grows : (c e : Computation) (s : State) → IsTrueState c s → IsTrueState (c ++ e) s
true_state_grows c e s is = grind (arith, common_steps, gets, interval_grows, at_grows)

-- a state that an observation of the front makes true was true
pub true_state_of_prefix : (c e : Computation) (s : State) (is : IsTrueState (c ++ e) s) → is.place < length c
    → IsTrueState c s
true_state_of_prefix c e s is place = grind (arith, count_prefix, get_front)

-- a state that was over becomes true no more
pub true_state_shrinks : (c e : Computation) (s : State) → s.interval < communications c s.process
    → IsTrueState (c ++ e) s → IsTrueState c s
true_state_shrinks c e s over is =
    true_state_of_prefix c e s is (in_front (is_communication_of s.process) c e is.place (omega (arith, is.within)))

-- the stamp of a message that the front sends is settled
pub stamp_shrinks : (n : ℕ) (c e : Computation) (message : ℕ) (stamp : List ℕ) → message < count_by is_send c
    → IsStampOf n (c ++ e) message stamp → IsStampOf n c message stamp
stamp_shrinks n c e message stamp sent is =
    let place : is.sent < length c = in_front is_send c e is.sent (omega (arith, is.number)) in
    let send : slice_get c is.sent ≡ Some (Send is.from is.to) = sym (get_front c e is.sent place) ∙ is.send in
    let k : ℕ = interval_at c is.from is.sent in
    let exists = event_below c is.from k is.sent (event_of_send c is.from k is.to is.sent send refl) in
    record {
      sent = is.sent;
      from = is.from;
      to = is.to;
      send = send;
      number = sym (count_prefix is_send c e is.sent (omega arith)) ∙ is.number;
      clock = clock_shrinks n c e (record { process = is.from; interval = k + 1 }) stamp (omega (arith, exists))
          (rw (interval_grows c e is.from is.sent (Send is.from is.to) send) at is.clock);
    }
