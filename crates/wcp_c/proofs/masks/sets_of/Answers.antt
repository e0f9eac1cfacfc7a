use Rattle.std.proofs.Common.{◌≡◌, ◌∙◌, ◌∷◌, ◌++◌, [], slice_index, slice_index_or, sym, subst, inl, inr, arith}
use Rattle.std.specs.FinSet as set
use Rattle.std.proofs.lemmas.Bool.{cases_eq, false≢true}
use Rattle.std.proofs.lemmas.List.{length-append, get_or_append_left, get_or_push}
use Rattle.std.proofs.lemmas.List.Elements.{All-push}
use Rattle.wcp_clock.specs.ProcessNumbers.{NumberSet}
use Rattle.wcp_model.specs.Watched.{AreSomeWatched}
use Rattle.wcp_c.specs.Masks.{IsSetOfMask}
use Rattle.wcp_c.proofs.masks.sets_of.Goals as goal

pub unreachable-requires : goal.unreachable-requires
unreachable-requires c =
    false≢true (c.in-None.ensures.is.1 (c.requires.masks c.loop-mask.mask-index 0 c.loop-mask-test.true))

abbrev set_of_none : NumberSet
set_of_none = set.empty

pub loop-mask-preserved : goal.loop-mask-preserved
loop-mask-preserved c =
    let sets = c.loop-mask.sets.items in
    let set = c.in-Some.set in
    let so_far = c.loop-mask.invariant in
    let none : NumberSet = set_of_none in
    rw c.in_ok-push-in-Some.ensures.items (record {
      as_many = omega (arith, length-append sets (set ∷ []), so_far.as_many);
      each = λ k under. elim (cases_eq k c.loop-mask.mask-index) [
        | inl same ↦
            let here : slice_index_or (sets ++ set ∷ []) k none ≡ set =
            get_or_push sets set none k (so_far.as_many ∙ sym same) in
            subst (IsSetOfMask (slice_index c.args.masks.now k)) (sym here)
            (subst (λ i. IsSetOfMask (slice_index c.args.masks.now i) set) (sym same) c.in-Some.ensures.set)
        | inr other ↦ subst (IsSetOfMask (slice_index c.args.masks.now k))
            (sym (get_or_append_left sets (set ∷ []) none k (omega (arith, under, other, so_far.as_many))))
            (so_far.each k (omega (arith, under, other)))
      ];
      some = All-push (AreSomeWatched c.args.processes) sets set so_far.some c.in-Some.ensures.some;
    })
