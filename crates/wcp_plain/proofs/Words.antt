-- The words of the proofs of this crate, from one place.
pub use Rattle.std.proofs.Common.{◌≡◌, ◌==◌, ℕ, ◌+◌, ◌<◌, ◌≤◌, ◌⊎◌, ◌↔◌, Bool, true, false, List, [], ◌∷◌, ◌++◌, length}
pub use Rattle.std.proofs.Common.{slice_get, Some, Contains, IsTrue, if◌then◌else◌, refl, sym, ◌∙◌, ap, subst, inl, inr}
pub use Rattle.std.proofs.Common.{⊎_elim, arith, ◌≢◌, ◌^◌, below_more}
pub use Rattle.std.proofs.lemmas.Bool.{cases_lt, cases_eq, eq-eqb, ne_eqb, false≢true}
pub use Rattle.std.proofs.lemmas.Option.{slice_get_within, same_Some, slice_get-get_or}
pub use Rattle.wcp_model.proofs.Reached.{state_at, AtOrAfter, Carries, same_state, interval_at-event, interval_at-other}
pub use Rattle.wcp_model.proofs.Reached.{before_next, before_receive, comes_from, before_to_state, IsTrueAt}
pub use Rattle.wcp_model.specs.Computation.{Computation, is_communication_of, is_send, interval_at, message_at}
pub use Rattle.wcp_model.specs.Computation.{IsTrueState}
pub use Rattle.wcp_model.specs.Cut.{member}
pub use Rattle.wcp_model.specs.Order.{HappenedBefore}
pub use Rattle.wcp_model.specs.declared.state.State.{State}
pub use Rattle.wcp_model.specs.declared.step.Step.{Step}
pub use Rattle.wcp_model.specs.declared.step.Step.TheVariants.{Send, Recv, Observe}
pub use Rattle.wcp_plain.specs.Named.{Names}
