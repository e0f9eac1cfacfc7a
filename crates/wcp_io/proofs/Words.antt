-- The words of the proofs of this crate, from one place.
pub use Rattle.std.proofs.Common.{◌≡◌, ◌≢◌, ◌∙◌, ◌+◌, ◌-◌, ◌<◌, ◌≤◌, ℕ, Bool, true, false, List, [], ◌∷◌, ◌++◌, Option}
pub use Rattle.std.proofs.Common.{Some, None, length, take, drop, vec_len, slice_range, refl, sym, ap, subst, arith}
pub use Rattle.std.proofs.Common.{append_assoc, append-nil, inl, inr, length-append, length-take, length-take-le}
pub use Rattle.std.proofs.Common.{take-append-drop, drop-cons, drop-drop}
pub use Rattle.std.proofs.KnownBytes.{Consumes-trans, Consumes-kept}
pub use Rattle.std.proofs.lemmas.List.{drop-take, take_all}
pub use Rattle.std.proofs.lemmas.List.Elements.{All-append, All-from_get_or, All-head, All-tail}
pub use Rattle.std.specs.Io.KnownBytes.{Consumes, IsAtEnd, Keeps, prepend_known}
pub use Rattle.std.specs.Prelude.{nat_eq, IfSome}
pub use Rattle.memchr.specs.Find.{Nowhere, Passes, is_byte}
pub use Rattle.wcp_io.specs.Lines.{line_feed, put_in_front}
unfoldable pub use Rattle.wcp_io.specs.Lines.{lines_of}
pub use Rattle.wcp_io.specs.Reader.{Gives, IsFirst, Whole, Prefix, left, most_given}
pub use Rattle.wcp_io.specs.Parts.{HasNoFeed, Moves, ToFeed, ToCut, Rest}
