-- The words of the proofs of this crate, from one place.
pub use Rattle.json.specs.Json.{Json, Members, no_members, member, null, boolean, number, string, array, object, Items}
pub use Rattle.json.specs.Json.{no_items, item}
pub use Rattle.json.specs.Value.{members_view, value_view}
pub use Rattle.std.proofs.Common.{◌≡◌, ℕ, ◌+◌, ◌<◌, Bool, true, false, cond, max, List, [], ◌∷◌, ◌++◌, length, get_or}
pub use Rattle.std.proofs.Common.{drop, take, Result, Ok, Err, string_bytes, refl, ap, sym, ◌∙◌, arith, add-one}
pub use Rattle.std.proofs.Common.{append_assoc, append-nil, subst, ◌≤◌, ◌≢◌, Some, None, Option, option_map, String}
pub use Rattle.std.proofs.Common.{MatchOption, eqb, rules, unwrap_or, zero, suc}
pub use Rattle.std.proofs.Math.Seq.{drop-cons, take-suc}
pub use Rattle.std.proofs.lemmas.Bool.{lt-ltb, false_from_ne_true}
pub use Rattle.std.proofs.lemmas.List.{map-append, drop_all, take_all}
pub use Rattle.std.proofs.lemmas.Map.Text.{hash_map_updates_text, hash_map_updates_str}
pub use Rattle.std.proofs.lemmas.Slice.Eq.{bytes_eq-Decides}
pub use Rattle.std.specs.Borrow.{Bor}
pub use Rattle.std.specs.HashMap.{HashMap, UpdatesBy, get_by_text, get_by}
pub use Rattle.std.specs.List.{position_or_len, before_first, after_first, AllByRecursion, list_any}
pub use Rattle.std.specs.Str.{bytes_eq, all_ascii_digits, IsUtf8, is_utf8}
pub use Rattle.trace_log.specs.Clock.{Member, member_in, clock_of, number_of, most_number, are_distinct}
pub use Rattle.trace_log.specs.Clock.{has_distinct_names, items_have_distinct_names, members_have_distinct_names}
pub use Rattle.trace_log.specs.Event.{Event, Stamp}
pub use Rattle.trace_log.specs.Judgement.{◌>>=◌, Fails, Gives}
pub use Rattle.trace_log.specs.Kept.{number_kept}
pub use Rattle.trace_log.specs.Hosts.{KeepsLast}
pub use Rattle.trace_log.specs.Order.{falls}
pub use Rattle.trace_log.specs.Views.{seen_member, seen_clock, seen_event}
pub use Rattle.trace_log.specs.declared.fault.LineFault.{LineFault}
pub use Rattle.trace_log.specs.declared.fault.LineFault.TheVariants.{Has, Memory}
