-- All events that are given on, one after another.
use Rattle.trace_order.proofs.Words.{◌≡◌, ◌∙◌, ℕ, ◌+◌, ◌<◌, Bool, true, false, cond, List, [], ◌∷◌, Option, Some}
use Rattle.trace_order.proofs.Words.{None, length}
use Rattle.trace_order.proofs.Words.{set, refl, ap, arith, suc, slice_index, MessageEvent, Ordered, HostState, host_at}
use Rattle.std.proofs.Common.{nat_lt}
use Rattle.std.proofs.lemmas.List.Quantifiers.{position-Some}
use Rattle.std.proofs.lemmas.List.Sums.{sum_by-set}
use Rattle.trace_order.specs.Clocks.{most_number}
use Rattle.trace_order.specs.Giving.{OrderState, after_giving, clock_of, first_ready, giving, giving_by}
use Rattle.trace_order.specs.Giving.{giving_of, next_at, next_in, next_of, next_with, with_first}
use Rattle.trace_order.specs.Giving.Next.{nothing, one, too_many}
use Rattle.trace_order.specs.State.{can_go, waiting_in, waits_in}

-- Nothing more is given on.
pub giving_none : (state : OrderState) → next_in state ≡ nothing
    → giving state ≡ record { given = []; kept = state; many = None }
unfolding giving giving_of
giving_none state is = at_count (waiting_in state.hosts)
  where
    at_count : (count : ℕ) → giving_of (count + 1) state ≡ record { given = []; kept = state; many = None }
    at_count count =
        let more : count + 1 ≡ suc count = omega arith in
        ap (λ n. giving_of n state) more ∙ ap (giving_by (giving_of count) state) is

-- It ended with an event whose number no clock can have.
pub giving_many : (state : OrderState) (line : ℕ) → next_in state ≡ too_many line
    → giving state ≡ record { given = []; kept = state; many = Some line }
unfolding giving giving_of
giving_many state line is = at_count (waiting_in state.hosts)
  where
    at_count : (count : ℕ) → giving_of (count + 1) state ≡ record { given = []; kept = state; many = Some line }
    at_count count =
        let more : count + 1 ≡ suc count = omega arith in
        ap (λ n. giving_of n state) more ∙ ap (giving_by (giving_of count) state) is

-- One waits less once it was given on.
fewer_by_one : (hosts : List HostState) (number : ℕ) (event : MessageEvent) (now : HostState) → number < length hosts
    → waits_in hosts number ≡ event ∷ now.waits → waiting_in hosts ≡ waiting_in (set hosts number now) + 1
fewer_by_one hosts number event now within waits =
    let sums = sum_by-set (λ (h : HostState). length h.waits) hosts number now (host_at [] 0) within in
    let count = ap length waits in
    omega (arith, sums, count)

one_less : (state kept : OrderState) (first : Ordered) → next_in state ≡ one first kept
    → waiting_in state.hosts ≡ waiting_in kept.hosts + 1
unfolding next_in after_giving
one_less state kept first is = of_ready (first_ready state) refl is
  where
    of_event : (number : ℕ) → number < length state.hosts → (event : MessageEvent) (waits : List MessageEvent)
        → waits_in state.hosts number ≡ event ∷ waits → (clock : List ℕ)
        → next_with state number event waits clock ≡ one first kept
        → waiting_in state.hosts ≡ waiting_in kept.hosts + 1
    of_event number within event waits here clock is =
        of_test (nat_lt most_number (slice_index clock number)) is
      where
        of_test : (b : Bool) → cond b (too_many event.line)
            (one (record { event = event; clock = clock }) (after_giving state number event waits clock))
            ≡ one first kept
            → waiting_in state.hosts ≡ waiting_in kept.hosts + 1
        of_test true is = absurd (cc)
        of_test false is =
            let same : after_giving state number event waits clock ≡ kept = cc in
            fewer_by_one state.hosts number event
            (record { name = (host_at state.hosts number).name; clock = clock; waits = waits }) within here
            ∙ ap (λ (k : OrderState). waiting_in k.hosts + 1) same

    of_waits : (number : ℕ) → number < length state.hosts → (waits : List MessageEvent)
        → waits_in state.hosts number ≡ waits → next_of state number waits ≡ one first kept
        → waiting_in state.hosts ≡ waiting_in kept.hosts + 1
    of_waits number within [] here is = absurd (cc)
    of_waits number within (event ∷ waits) here is =
        of_event number within event waits here (clock_of state.sent (host_at state.hosts number) number event) is

    of_ready : (ready : Option ℕ) → first_ready state ≡ ready → next_at state ready ≡ one first kept
        → waiting_in state.hosts ≡ waiting_in kept.hosts + 1
    of_ready None found is = absurd (cc)
    of_ready (Some number) found is =
        let within = position-Some (λ (host : HostState). can_go state.sent host.waits) state.hosts number
        (host_at [] 0) found in
        of_waits number within.0 (waits_in state.hosts number) refl is

-- The next one is given on, and then the others.
pub giving_one : (state kept : OrderState) (first : Ordered) → next_in state ≡ one first kept
    → giving state ≡ with_first first (giving kept)
unfolding giving giving_of
giving_one state kept first is =
    let less = one_less state kept first is in
    let more : waiting_in state.hosts + 1 ≡ suc (waiting_in kept.hosts + 1) = omega (arith, less) in
    ap (λ n. giving_of n state) more ∙ ap (giving_by (giving_of (waiting_in kept.hosts + 1)) state) is
