-- Which event is named of those that wait at the end of a log.
use Rattle.std.specs.Prelude.{ℕ, ◌&&◌, ◌||◌, Bool, List, Option, Some, None, is_some, nat_lt, not, fold, if◌then◌else◌}
use Rattle.std.specs.List.{find, list_all}
use Rattle.std.specs.Option.{option_or}
use Rattle.trace_order.specs.Giving.{OrderState}
use Rattle.trace_order.specs.Ids.{is_known}
use Rattle.trace_order.specs.Messages.{MessageEvent}
use Rattle.trace_order.specs.Orders.{HostState, first_waiting}

-- Whether each id that is received is sent by an event that was read.
abbrev pub has_senders : (List ℕ → Bool) → List (List ℕ) → Bool
has_senders announced receives = list_all announced receives

-- Whether an event is named before another: it waits for a message that no event sends, and the other one doesn't; or
-- both do or neither, and its line is the lower one.
abbrev pub is_named_before : (List ℕ → Bool) → MessageEvent → MessageEvent → Bool
is_named_before announced one other =
    if has_senders announced one.receives then has_senders announced other.receives && nat_lt one.line other.line
    else has_senders announced other.receives || nat_lt one.line other.line

-- The one of two events that is named before the other.
abbrev pub sooner : (List ℕ → Bool) → Option MessageEvent → Option MessageEvent → Option MessageEvent
sooner announced None other = other
sooner announced (Some one) None = Some one
sooner announced (Some one) (Some other) = if is_named_before announced other one then Some other else Some one

-- The first event of each host is asked, if events of it wait.
unfoldable pub first_to_wait : OrderState → Option MessageEvent
first_to_wait state =
    let known = is_known state.announced in
    fold (λ first (host : HostState). sooner known first (first_waiting host.waits)) None state.hosts

-- The first of these ids that isn't so.
abbrev pub first_not : (List ℕ → Bool) → List (List ℕ) → Option (List ℕ)
first_not is_so ids = find (λ id. not (is_so id)) ids

-- The id for which an event waits that receives these: the first that no event sends, or else the first that no event
-- sent that was given on.
abbrev pub waited_for : OrderState → List (List ℕ) → Option (List ℕ)
waited_for state receives =
    option_or (first_not (is_known state.announced) receives) (first_not (λ id. is_some (state.sent id)) receives)
