-- The words of the proofs of this crate, from one place.
pub use Rattle.clap.proofs.FaultLemmas.{stopped_fault}
pub use Rattle.clap.specs.Faults.{built_fault}
pub use Rattle.clap.specs.Lexer.{strip_byte}
pub use Rattle.clap.specs.Simple.{names_of, entered, new_shape}
pub use Rattle.clap.specs.Walk.{nothing_held, walk_from, stop_after}
pub use Rattle.clap.specs.Words.{Text, built, fault_of, IsAmong, Kinds, is_simple, is_simple_and_free, Row}
pub use Rattle.clap.specs.Words.{subcommand_of, subcommand_name_of, subcommand_rows, subcommand_rows_of, App, HasKind}
pub use Rattle.clap.specs.Words.{app_of, kind_of, new_app, shape_of, with_rule, with_subcommand}
pub use Rattle.clap.specs.declared.error.kind.ErrorKind.{ErrorKind}
pub use Rattle.std.proofs.Common.{◌≡◌, ◌≢◌, ◌∙◌, ◌⊎◌, inl, inr, ℕ, zero, suc, Bool, true, false, List, [], ◌∷◌, ◌++◌}
pub use Rattle.std.proofs.Common.{codes, map, replicate, Option, Some, None, option_map, Result, Ok, Err, IfOk, IsErr}
pub use Rattle.std.proofs.Common.{refl, sym, subst, ap, ap₂, true≢false, append-nil, eq-eqb, ⊎_elim, rules}
pub use Rattle.std.proofs.KnownBytes.{Keeps-refl}
pub use Rattle.std.proofs.lemmas.Bool.{false_from_ne_true}
pub use Rattle.std.proofs.lemmas.List.{length-replicate}
pub use Rattle.std.proofs.lemmas.Result.{IfOk-from_err, IfOk-weaker}
pub use Rattle.std.specs.Io.KnownBytes.{Keeps, Appends}
pub use Rattle.std.specs.List.{list_all, flat_map}
pub use Rattle.std.specs.Str.{bytes_eq}
pub use Rattle.wcp_io.specs.Input.{Known}
pub use Rattle.wcp_io.specs.Prefixes.{AppendsPrefix}
pub use Rattle.wcp_cli.specs.Edge.{status_after, Quiet, Prefix, Whole}
pub use Rattle.wcp_cli.specs.RequestAnswers.{Reads, ring_text}
pub use Rattle.wcp_cli.specs.Words.{program, AskForSingle, AskForHelp, AskForVersion, AskForUnknown, IsAlone, IsReader}
pub use Rattle.wcp_cli.specs.Words.{IsUnknown, UnknownWord, Further, is_flag, IsSameRequest, AskFor, MayHelp, named}
pub use Rattle.wcp_cli.specs.declared.words.Request.{Request}
pub use Rattle.wcp_cli.specs.declared.words.Request.TheVariants.{Single, Run, Replay, Help, Unknown}
