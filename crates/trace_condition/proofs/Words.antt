-- The words of the proofs of this crate, from one place.
pub use Rattle.std.proofs.Common.{◌≡◌, ◌≢◌, ℕ, ◌<◌, ◌≤◌, ◌+◌, ◌==◌, ◌&&◌, Bool, true, false, not, cond, List, [], ◌∷◌}
pub use Rattle.std.proofs.Common.{◌++◌, map, length, get_or, drop, Option, Some, None, option_map, find, refl, ap, sym}
pub use Rattle.std.proofs.Common.{◌∙◌, add-one, suc, take, zero, arith, MatchOption, eqb, Result, IfOk, subst, rules}
pub use Rattle.std.proofs.Math.Seq.{drop-cons, take-suc}
pub use Rattle.std.proofs.lemmas.List.{drop_all, length-map, map-append, map_more, take-append-drop}
pub use Rattle.std.proofs.lemmas.Simd.{map-map}
pub use Rattle.std.specs.Borrow.{Bor}
pub use Rattle.std.specs.List.{list_any, position_or_len, before_first, after_first, All, AllByRecursion}
pub use Rattle.std.specs.Str.{bytes_eq}
pub use Rattle.trace_condition.specs.Asked.{Asked, Text, Word, Saying, all_read, word_in, saying_by, while_rule}
pub use Rattle.trace_condition.specs.Asked.{from_rule, at_rule, until_of, are_distinct, are_fit}
pub use Rattle.trace_condition.specs.Asked.{conditions_of, ◌>>=◌}
pub use Rattle.trace_condition.specs.Conditions.{said_by, IsReadExpression, IsRead, CanBeRead, RefusesExpression}
pub use Rattle.trace_condition.specs.Conditions.{RefusesSaying, RefusesSayings, ReadsSayings, HaveHosts, ReadsSaying}
pub use Rattle.trace_condition.specs.Sayings.{Fails, seen_word, seen_saying, host_said, seen_texts, seen_rule}
pub use Rattle.trace_condition.specs.Sayings.{seen_words}
pub use Rattle.trace_condition.specs.Sayings.{Gives, kind_rule}
pub use Rattle.trace_condition.specs.declared.fault.ConditionFault.{ConditionFault}
pub use Rattle.trace_condition.specs.declared.fault.ConditionFault.TheVariants.{Usage, Expression, Memory}
pub use Rattle.trace_condition.specs.declared.rule.Rule.TheVariants.{FromUntil}
