-- The words of the proofs of this crate, from one place.
pub use Rattle.std.proofs.Common.{◌≡◌, ◌≢◌, ◌∙◌, ◌+◌, ◌<◌, ◌≤◌, ◌⊎◌, inl, inr, ℕ, suc, Bool, true, false, cond}
pub use Rattle.std.proofs.Common.{List, []}
pub use Rattle.std.proofs.Common.{◌∷◌, ◌++◌, Option, Some, None, option_map, length, take, drop, refl, sym, ap, subst}
pub use Rattle.std.proofs.Common.{arith, append_assoc, append-nil, drop-drop, min}
pub use Rattle.std.proofs.KnownBytes.{Keeps-refl, Keeps-trans}
pub use Rattle.std.proofs.Math.Seq.{take-append_seam}
pub use Rattle.std.proofs.lemmas.List.{take_all}
pub use Rattle.std.proofs.lemmas.Bool.{lt-leb, lt-ltb, le-leb}
pub use Rattle.std.specs.Io.KnownBytes.{Consumes, IsAtEnd, Keeps, prepend_known}
pub use Rattle.std.specs.Prelude.{IfSome, nat_lt, nat_le, ◌&&◌}
pub use Rattle.wcp_io.specs.Reader.{Gives, IsFirst, Whole, Prefix, most_given}
unfoldable pub use Rattle.wcp_io.specs.Lines.{lines_of}
pub use Rattle.trace_log.specs.Event.{most_bytes}
pub use Rattle.trace_log.specs.declared.turn.Form.{Form}
pub use Rattle.trace_rewrite.specs.declared.reader.Stage.{Stage}
pub use Rattle.trace_rewrite.specs.declared.reader.Stage.TheVariants.{Reading, Saying, Failed, Ending, Over}
pub use Rattle.trace_rewrite.specs.Saying.{SaysAgain, SaysLine}
pub use Rattle.trace_rewrite.specs.Given.{is_last, up_to_long}
unfoldable pub use Rattle.trace_rewrite.specs.Given.{read_lines, said_from}
pub use Rattle.trace_rewrite.specs.Remaining.{said_of_bytes, to_be_said}
