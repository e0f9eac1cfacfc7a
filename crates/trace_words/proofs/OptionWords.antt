-- The words of the proofs of this crate, from one place.
pub use Rattle.clap.specs.Words.{IsAmong, Row, Text, all_of, fault_of, first_of, first_value, is_simple}
pub use Rattle.clap.specs.Words.{is_simple_and_free, matched_of, raw_values, rows_of, matches_of, found_of, app_of}
pub use Rattle.clap.specs.Words.{with_rule, App, HasKind, kind_of}
pub use Rattle.std.proofs.Common.{◌≡◌, ◌∙◌, ◌⊎◌, inl, inr, true, List, [], codes, map, Option, Some, None, option_map}
pub use Rattle.std.proofs.Common.{Result, Ok, Err, IfOk, refl, sym, subst, ap, ap₂}
pub use Rattle.std.proofs.lemmas.Result.{IfOk-weaker}
pub use Rattle.trace_words.specs.Options.{program, seen_texts, values_at, first_line_at}
pub use Rattle.trace_words.specs.Options.{last_line_at, form_at}
unfoldable pub use Rattle.trace_words.specs.Options.{line_said}
pub use Rattle.trace_words.specs.Requests.{IsRequestOf, Passed, Refused, IsTraceOf, IsRefusalOf}
pub use Rattle.trace_words.specs.declared.options.TraceRequest.{TraceRequest}
pub use Rattle.trace_words.specs.declared.options.TraceRequest.TheVariants.{Trace, Help, Version, Unknown}
