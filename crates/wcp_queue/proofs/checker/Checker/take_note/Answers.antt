use Rattle.wcp_queue.proofs.Words.{◌++◌, ◌∷◌, [], slice_set, true, sym, refl, subst, arith, StandsForItems}
use Rattle.wcp_queue.proofs.Words.{checker_state}
use Rattle.wcp_queue.proofs.StandingForItems.{StandsForItems-close, StandsForItems-lost}
use Rattle.wcp_queue.proofs.checker.Checker.take_note.Goals as goal

pub returns-in-Close-clause-taken : goal.returns-in-Close-clause-taken
returns-in-Close-clause-taken c =
    let may = rw (← c.self.view_is) at c.requires in
    let noted = checker_state (record c.self.inside { closed = slice_set c.self.inside.closed c.args.from true }) in
    rw (← c.self.view_is) (record {
      stands = λ items stands.
          subst (λ note. StandsForItems noted (items ++ record { from = c.args.from; note = note } ∷ []))
          (sym c.in-Close.is)
          (StandsForItems-close (checker_state c.self.inside) noted items c.args.from c.in-Close.count stands
          (rw c.in-Close.is at may) (omega (arith, may.from, c.self.invariant.few, c.self.invariant.marks)) refl);
      counts = rw c.in-Close.is (record { taken = refl; closed = refl; lost = refl });
      starved = refl;
      watched = refl;
    })

pub returns-in-Lost-clause-taken : goal.returns-in-Lost-clause-taken
returns-in-Lost-clause-taken c =
    let may = rw (← c.self.view_is) at c.requires in
    let noted = checker_state (record c.self.inside { lost = slice_set c.self.inside.lost c.args.from true }) in
    rw (← c.self.view_is) (record {
      stands = λ items stands.
          subst (λ note. StandsForItems noted (items ++ record { from = c.args.from; note = note } ∷ []))
          (sym c.in-Lost.is)
          (StandsForItems-lost (checker_state c.self.inside) noted items c.args.from c.in-Lost.count stands
          (rw c.in-Lost.is at may) (omega (arith, may.from, c.self.invariant.few, c.self.invariant.losses)) refl);
      counts = rw c.in-Lost.is (record { taken = refl; closed = refl; lost = refl });
      starved = refl;
      watched = refl;
    })
