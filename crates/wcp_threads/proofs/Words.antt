-- The words of the proofs of this crate, from one place.
pub use Rattle.std.proofs.Common.{◌≡◌, List, [], ◌∷◌, ◌++◌, length, map, refl, append_assoc, arith, sym, ap, ◌∙◌, subst}
pub use Rattle.std.proofs.Common.{suc}
pub use Rattle.std.specs.Prelude.{vec_items, All}
pub use Rattle.std.specs.Vec.Iter.{into_iter_items}
pub use Rattle.wcp_threads.specs.Threads.{AreEndsOf}
