-- What a step of an order makes of what is kept.
use Rattle.trace_order.proofs.Words.{◌≡◌, ◌∙◌, ℕ, ◌≤◌, cond, List, [], ◌∷◌, Option, Some, set, refl, sym}
use Rattle.trace_order.proofs.Words.{ap, slice_index, MessageEvent, is_among, HostState, host_at}
use Rattle.std.proofs.Common.{le-ltb, lt-ltb, Result, Err, subst}
use Rattle.trace_order.specs.Clocks.{most_number}
use Rattle.trace_order.specs.Giving.{AreTooMany, Next, OrderState, after_giving, clock_of, first_clock, first_of}
use Rattle.trace_order.specs.Giving.{IsGiven, IsNext, IsTooMany, next_of, next_with}
use Rattle.trace_order.specs.declared.order.OrderedEvent.{OrderedEvent}
use Rattle.trace_order.specs.declared.order_fault.GiveFault.{GiveFault}
use Rattle.trace_order.specs.declared.order_fault.GiveFault.TheVariants as give
use Rattle.trace_order.specs.Giving.Next.{one, too_many}
use Rattle.trace_order.specs.State.{waits_in}
use Rattle.trace_order.proofs.Kept.{kept_as, same_kept}

-- The first event of a host is given on with this clock.
pub given_next : (state : OrderState) (number : ℕ) (event : MessageEvent) (now : HostState) (clock : List ℕ)
    (sent : List ℕ → Option (List ℕ)) → waits_in state.hosts number ≡ event ∷ now.waits
    → now.name ≡ (host_at state.hosts number).name → now.clock ≡ clock
    → clock ≡ first_clock state.sent (host_at state.hosts number) number → slice_index clock number ≤ most_number
    → ((id : List ℕ) → sent id ≡ cond (is_among id event.sends) (Some clock) (state.sent id))
    → next_of state number (waits_in state.hosts number)
    ≡ one (record { event = event; clock = clock }) (kept_as (set state.hosts number now) state.announced sent)
unfolding after_giving
given_next state number event now clock sent waits name last is fits noted =
    ap (next_of state number) waits ∙ ap (next_with state number event now.waits) clock_is
    ∙ ap (λ b. cond b (too_many event.line)
    (one (record { event = event; clock = clock }) (after_giving state number event now.waits clock)))
    (le-ltb most_number (slice_index clock number) fits)
    ∙ ap (one (record { event = event; clock = clock })) (same_kept _ _ _ _ _ _
    (ap (set state.hosts number) (sym now_is)) (λ id. refl) (λ id. sym (noted id)))
  where
    clock_is : clock_of state.sent (host_at state.hosts number) number event ≡ clock
    clock_is = sym (is ∙ ap (first_of state.sent (host_at state.hosts number) number) waits)

    now_is : now ≡ record { name = (host_at state.hosts number).name; clock = clock; waits = now.waits }
    now_is =
        ap (λ n. record { name = n; clock = now.clock; waits = now.waits }) name
        ∙ ap (λ l. record { name = (host_at state.hosts number).name; clock = l; waits = now.waits }) last

-- The first event of a host has a number that no clock can have.
pub given_too_many : (state : OrderState) (number : ℕ) (waits : List MessageEvent) (line : ℕ)
    → AreTooMany state.sent (host_at state.hosts number) number waits line → next_of state number waits ≡ too_many line
given_too_many state number [] line many = absurd many
given_too_many state number (event ∷ waits) line many =
    ap (λ b. cond b (too_many event.line) (one (record { event = event; clock = clock })
    (after_giving state number event waits clock))) (lt-ltb most_number (slice_index clock number) many.1)
    ∙ ap too_many (sym many.0)
  where
    clock : List ℕ
    clock = clock_of state.sent (host_at state.hosts number) number event

-- A fault that is handed on, where an event was to be given on.
pub given_fault : (state : OrderState) (number : ℕ) (fault : GiveFault)
    → ((line : ℕ) → fault ≡ give.Many line → IsTooMany state.sent (host_at state.hosts number) number line)
    → (result : Result OrderedEvent GiveFault) → result ≡ Err fault
    → IsGiven result (next_of state number (waits_in state.hosts number)) state state
given_fault state number fault many result is =
    subst (λ r. IsGiven r (next_of state number (waits_in state.hosts number)) state state) (sym is)
    (of_fault fault many)
  where
    of_fault : (fault : GiveFault)
        → ((line : ℕ) → fault ≡ give.Many line → IsTooMany state.sent (host_at state.hosts number) number line)
        → IsGiven (Err fault) (next_of state number (waits_in state.hosts number)) state state
    of_fault (give.Many line) many =
        (given_too_many state number (waits_in state.hosts number) line (many line refl), refl)
    of_fault give.Memory many = refl

-- And where the next one was.
pub next_fault : (fault : GiveFault) (next next' : Next) (old new : OrderState) → next' ≡ next
    → IsGiven (Err fault) next old new → (result : Result (Option OrderedEvent) GiveFault) → result ≡ Err fault
    → IsNext result next' old new
next_fault fault next next' old new same given result is =
    subst (λ r. IsNext r next' old new) (sym is) (subst (λ n. IsNext (Err fault) n old new) (sym same)
    (of_fault fault given))
  where
    of_fault : (fault : GiveFault) → IsGiven (Err fault) next old new → IsNext (Err fault) next old new
    of_fault (give.Many line) given = given
    of_fault give.Memory given = given
