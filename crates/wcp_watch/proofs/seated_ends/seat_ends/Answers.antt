use Rattle.wcp_watch.proofs.Words.{[], ◌∷◌, true≢false, get_or, refl, sym, subst, ◌∙◌, arith, ClosedSide, number_of}
use Rattle.wcp_watch.proofs.Words.{Contains-get_or, IsFreeOf, Stranger, Missing, Faulted, Unfinished}
use Rattle.wcp_watch.proofs.FirstFaults.{handed_on, is_first}
use Rattle.wcp_watch.proofs.SettledEnds.{all_there, few, few_ends, probe_within, relay_within}
use Rattle.wcp_watch.proofs.seated_ends.seat_ends.Goals as goal

pub seat-requires-clause-within : goal.seat-requires-clause-within
seat-requires-clause-within c = λ k d within same.
    omega (
      arith,
      probe_within c.requires (get_or c.args.probes.items k d) (Contains-get_or c.args.probes.items k d within) same,
      few c.requires,
      c.empty-probe_ends.ensures.all,
    )

pub returns-in_err-seat-clause-first : goal.returns-in_err-seat-clause-first
returns-in_err-seat-clause-first c =
    handed_on _ c.from_residual.result c.in_err-seat.field-0.0 Stranger c.from_residual.ensures
    c.in_err-seat.ensures.fault
    (λ book.
    is_first c.args.probes.items c.args.relays.items c.args.checker.now book [] Stranger
    (Missing ∷ Faulted ∷ Unfinished ∷ []) refl tt
    (λ of. true≢false (sym (c.in_err-seat.ensures.exact.1 of.0))))

pub seat-requires-2-clause-within : goal.seat-requires-2-clause-within
seat-requires-2-clause-within c = λ k d within same.
    omega (
      arith,
      relay_within c.requires (get_or c.args.relays.items k d) (Contains-get_or c.args.relays.items k d within) same,
      few_ends c.requires,
      c.empty-relay_ends.ensures.all,
    )

pub returns-in_err-seat-2-clause-first : goal.returns-in_err-seat-2-clause-first
returns-in_err-seat-2-clause-first c =
    handed_on _ c.from_residual-in_err-seat-2.result c.in_err-seat-2.field-0.0 Stranger
    c.from_residual-in_err-seat-2.ensures c.in_err-seat-2.ensures.fault
    (λ book.
    is_first c.args.probes.items c.args.relays.items c.args.checker.now book [] Stranger
    (Missing ∷ Faulted ∷ Unfinished ∷ []) refl tt
    (λ of. true≢false (sym (c.in_err-seat-2.ensures.exact.1 of.1))))

pub are_seated-requires : goal.are_seated-requires
are_seated-requires c = omega (arith, few c.requires, c.seat.auto.seats, c.empty-probe_ends.ensures.all)

pub are_seated-requires-else-not-are_seated : goal.are_seated-requires-else-not-are_seated
are_seated-requires-else-not-are_seated c =
    omega (arith, few_ends c.requires, c.seat-2.auto.seats, c.empty-relay_ends.ensures.all)

pub returns-then-not-are_seated-clause-first : goal.returns-then-not-are_seated-clause-first
returns-then-not-are_seated-clause-first c = λ book.
    is_first c.args.probes.items c.args.relays.items c.args.checker.now book (Stranger ∷ []) Missing
    (Faulted ∷ Unfinished ∷ []) refl
    ((c.in_ok-seat.ensures.exact.0 refl, c.in_ok-seat-2.ensures.exact.0 refl), tt)
    (λ there.
    elim c.then-not-are_seated.branch [
      | goal.then-not-are_seated-via-then-not-are_seated w ↦
          let seated = (all_there (λ (end : ClosedSide). end.id) _ _ _ c.in_ok-seat.ensures.seats).1 there.0 in
          true≢false (sym (c.are_seated.ensures.1 seated) ∙ w.if-not-are_seated.true)
      | goal.then-not-are_seated-via-else-not-are_seated+then-not-are_seated-2 w ↦
          let seated = (all_there number_of _ _ _ c.in_ok-seat-2.ensures.seats).1 there.1 in
          true≢false (sym (w.are_seated-else-not-are_seated.ensures.1 seated) ∙ w.if-not-are_seated-2.true)
    ])

pub returns-then-not-whole-clause-first : goal.returns-then-not-whole-clause-first
returns-then-not-whole-clause-first c = λ book.
    let probes = all_there (λ (end : ClosedSide). end.id) _ _ _ c.in_ok-seat.ensures.seats in
    let relays = all_there number_of _ _ _ c.in_ok-seat-2.ensures.seats in
    is_first c.args.probes.items c.args.relays.items c.args.checker.now book (Stranger ∷ Missing ∷ []) Faulted
    (Unfinished ∷ []) refl (
      (c.in_ok-seat.ensures.exact.0 refl, c.in_ok-seat-2.ensures.exact.0 refl),
      (
        (
          probes.0 (c.are_seated.ensures.0 c.if-not-are_seated.false),
          relays.0 (c.are_seated-else-not-are_seated.ensures.0 c.if-not-are_seated-2.false),
        ),
        tt,
      ),
    )
    (λ whole. true≢false (sym (c.are_whole-whole.ensures.1
    (subst (λ ends. IsFreeOf c.args.probes.items ends c.args.checker.now book Faulted)
    (sym c.deref.ensures.value) whole)) ∙ c.if-not-whole.true))

pub returns-clause-seated : goal.returns-clause-seated
returns-clause-seated c = record {
  of_probes = c.in_ok-seat.ensures.exact.0 refl;
  of_relays = c.in_ok-seat-2.ensures.exact.0 refl;
  probes_sit = c.in_ok-seat.ensures.seats;
  relays_sit = c.in_ok-seat-2.ensures.seats;
  all_probes = c.are_seated.ensures.0 c.if-not-are_seated.false;
  all_relays = c.are_seated-else-not-are_seated.ensures.0 c.if-not-are_seated-2.false;
  whole = rw c.deref.ensures.value at (c.are_whole-whole.ensures.0 c.if-not-whole.false);
}
