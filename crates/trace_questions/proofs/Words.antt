-- The words of the proofs of this crate, from one place.
pub use Rattle.std.proofs.Common.{◌≡◌, ℕ, ◌<◌, ◌≤◌, ◌+◌, ◌&&◌, ◌==◌, Bool, true, false, not, List, [], ◌∷◌}
pub use Rattle.std.proofs.Common.{◌++◌, map, length, get_or, drop, take, Option, Some, None, option_map, refl, ap, sym}
pub use Rattle.std.proofs.Common.{◌∙◌, add-one, suc, zero, arith, subst, codes, Result, Ok, Err}
pub use Rattle.std.proofs.Math.Seq.{drop-cons, take-suc}
pub use Rattle.std.proofs.lemmas.List.{drop_all, take_all, length-map, map-append, take-append-drop}
pub use Rattle.std.proofs.lemmas.Simd.{map-map}
pub use Rattle.std.proofs.lemmas.Bool.{lt-ltb}
pub use Rattle.std.specs.Borrow.{Bor}
pub use Rattle.std.specs.List.{list_any}
pub use Rattle.std.specs.Str.{bytes_eq}
pub use Rattle.toml.specs.Data.{as_str}
pub use Rattle.toml.specs.View.{view, items_view, members_view}
pub use Rattle.trace_condition.specs.Asked.{Text, ◌>>=◌, all_read}
pub use Rattle.trace_condition.specs.Sayings.{seen_texts}
pub use Rattle.trace_questions.specs.Wordings.{Wording, list_of, has_only, wording_of, are_fit}
pub use Rattle.trace_questions.specs.Seen.{name_worded, seen_wording}
