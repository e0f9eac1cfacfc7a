use Rattle.std.proofs.Common.{arith, ◌≡◌, List, Option, take, set, slice_get, slice_index_or, Some, None, sym}
use Rattle.std.proofs.Common.{◌∙◌, ap, refl, subst, All}
use Rattle.std.proofs.lemmas.List.{length-take-le, length-set, get_or-take}
use Rattle.std.proofs.lemmas.List.Elements.{All-set}
use Rattle.std.proofs.lemmas.Option.{slice_get-get_or}
use Rattle.std.proofs.Math.Seq.{take-set-lt}
use Rattle.wcp_model.specs.declared.outcome.Tally.{Tally}
use Rattle.wcp_book.specs.State.{BookState}
use Rattle.wcp_book.specs.Totals.{HasFewSnapshots}
use Rattle.wcp_book.proofs.Posted.{posted_totals, few_totals, no_share}
use Rattle.wcp_book.proofs.book.Book.post.Given.{Over}
use Rattle.wcp_book.proofs.book.Book.post.Goals as goal

abbrev with_shares : BookState → List (Option Tally) → BookState
with_shares book shares = record book { shares = shares }

module _ (g : Over) (c : goal.After-self-2-1 g) where
  abbrev share : Tally
  share = record { emitted = c.args.emitted; taken = c.args.taken }

  none : slice_index_or c.self.inside.shares c.args.p None ≡ None
  none = no_share (slice_index_or c.self.inside.shares c.args.p None) (sym c.is_some.ensures ∙ c.if-is_some.false)

  replaced : take c.self.inside.processes (set c.self.inside.shares c.args.p (Some share)) ≡ set
      (take c.self.inside.processes c.self.inside.shares) c.args.p (Some share)
  replaced = take-set-lt c.self.inside.processes c.self.inside.shares c.args.p (Some share) c.if-p-self.false

pub overflow_add-self : goal.overflow_add-self
overflow_add-self g c =
    let few = few_totals
    (take c.self.inside.processes c.self.inside.shares) c.self.inside.totals c.self.invariant.3 c.self.invariant.4 in
    omega (
      arith,
      few.0,
      c.requires.few_emitted,
      c.self.invariant.1,
      c.self.invariant.2,
      length-take-le c.self.inside.processes c.self.inside.shares,
    )

pub overflow_add-self-2 : goal.overflow_add-self-2
overflow_add-self-2 g c =
    let few = few_totals
    (take c.self.inside.processes c.self.inside.shares) c.self.inside.totals c.self.invariant.3 c.self.invariant.4 in
    omega (
      arith,
      few.1,
      c.requires.few_taken,
      c.self.invariant.1,
      c.self.invariant.2,
      length-take-le c.self.inside.processes c.self.inside.shares,
    )

pub invariant_of-self : goal.invariant_of-self
invariant_of-self g c = (
  c.self.invariant.0,
  c.self.invariant.1,
  length-set c.self.inside.shares c.args.p (Some (share g c)) ∙ c.self.invariant.2,
  subst (All HasFewSnapshots) (sym (replaced g c))
      (All-set HasFewSnapshots (take c.self.inside.processes c.self.inside.shares) c.args.p (Some (share g c))
      (c.requires.few_emitted, c.requires.few_taken) c.self.invariant.3),
  posted_totals c.self.inside.processes c.args.p c.self.inside.shares c.self.inside.totals (share g c) c.if-p-self.false
      (omega (arith, c.self.invariant.1, c.self.invariant.2)) (none g c) c.self.invariant.4,
  c.self.invariant.5,
  c.self.invariant.6,
  c.self.invariant.7,
  c.self.invariant.8,
)

pub returns-clause-ok : goal.returns-clause-ok
returns-clause-ok g c =
    let full = length-take-le c.self.inside.processes c.self.inside.shares
    (omega (arith, c.self.invariant.1, c.self.invariant.2)) in
    let here : slice_get c.args.self.now.shares c.args.p ≡ Some None =
    ap (λ (book : BookState). slice_get book.shares c.args.p) (sym c.self.view_is)
    ∙ slice_get-get_or (take c.self.inside.processes c.self.inside.shares) c.args.p None
    (omega (arith, full, c.if-p-self.false))
    ∙ ap Some (get_or-take c.self.inside.processes c.self.inside.shares c.args.p None c.if-p-self.false ∙ none g c) in
    ((λ _. here), (λ _. refl))

pub returns-clause-posted : goal.returns-clause-posted
returns-clause-posted g c =
    ap (with_shares (record {
      shares = take c.self.inside.processes c.self.inside.shares;
      found = c.self.inside.found;
      ended = c.self.inside.ended;
      in_use = c.self.inside.in_use;
    })) (replaced g c)
    ∙ ap (λ (book : BookState). with_shares book (set book.shares c.args.p (Some (share g c)))) c.self.view_is
