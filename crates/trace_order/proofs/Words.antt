-- The words of the proofs of this crate, from one place.
pub use Rattle.std.proofs.Common.{◌≡◌, ◌≢◌, ℕ, ◌+◌, ◌<◌, ◌≤◌, Bool, true, false, cond, max, Option, Some, None, is_some}
pub use Rattle.std.proofs.Common.{Ok, List, [], ◌∷◌, ◌++◌, length, map, get_or, set, drop, slice_index, refl, sym, ◌∙◌}
pub use Rattle.std.proofs.Common.{ap, subst, arith, rules, zero, suc, inl, inr, ◌⊎◌, append_assoc, append-nil, ◌↔◌}
pub use Rattle.std.proofs.lemmas.List.{map-append, get_or-map, get_or-set_same, get_or-set_other, length-set}
pub use Rattle.std.proofs.lemmas.List.{length-map, get_or_default, get_or_append_left, get_or-append-add, length-append}
pub use Rattle.std.proofs.lemmas.List.Elements.{Contains-append_left, Contains-append_cases, Contains-push}
pub use Rattle.std.proofs.lemmas.List.Elements.{Contains-push_cases, All-contains, All-filter, filter_passes, All-map}
pub use Rattle.std.proofs.lemmas.List.Elements.{All-contains_itself, Contains-append_right, filter-append, All-weaker}
pub use Rattle.std.proofs.lemmas.List.Kept.{AllPairs-filter}
pub use Rattle.std.specs.List.{All, AllPairs, Contains, filter}
pub use Rattle.std.specs.Bool.{nat_eq}
pub use Rattle.trace_order.specs.Messages.{MessageEvent, is_among, Sends, IsNext, IsMessage, HappensBefore}
pub use Rattle.trace_order.specs.Messages.HappensBefore.{next, message, through}
pub use Rattle.trace_order.specs.Orders.{Ordered, events_of, of_host, own, IsUpTo, SaysBefore, IsLog, IsSent, IsReady}
pub use Rattle.trace_order.specs.Orders.{IsOrder, IsLast, IsUnbegun, KeepsSent, Keeps, HostState, host_at}
pub use Rattle.trace_order.specs.Orders.{first_waiting}
pub use Rattle.trace_order.specs.Clocks.{IsNextClock}
