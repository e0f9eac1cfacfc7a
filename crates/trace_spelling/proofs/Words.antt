-- The words of the proofs of this crate, from one place.
pub use Rattle.std.proofs.Common.{◌≡◌, ◌∙◌, ◌+◌, ◌<◌, ◌≤◌, ℕ, Bool, true, false, cond, List, [], ◌∷◌, ◌++◌, Option}
pub use Rattle.std.proofs.Common.{Some}
pub use Rattle.std.proofs.Common.{None, option_map, length, suc, drop, refl, sym, ap, subst, arith, append-nil, codes}
pub use Rattle.std.specs.Prelude.{nat_lt, nat_le}
pub use Rattle.std.proofs.lemmas.Bool.{lt-leb, lt-ltb, le-leb}
pub use Rattle.trace_log.specs.declared.fault.LogFaultKind.TheVariants.{Text, Long}
pub use Rattle.trace_log.specs.Event.{most_bytes}
pub use Rattle.trace_rewrite.specs.Lines.{fault_line, too_long}
pub use Rattle.trace_spelling.specs.Ways.{spelled}
pub use Rattle.trace_spelling.specs.Windows.{Wait, number_behind}
pub use Rattle.trace_spelling.specs.Said.{Rule, Turn, line_turn, wait_turn, full_turn, end_said, text_of}
unfoldable pub use Rattle.trace_spelling.specs.Said.{said_lines}
