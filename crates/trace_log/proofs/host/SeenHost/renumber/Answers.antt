use Rattle.std.proofs.Math.Seq.{take-append_seam}
use Rattle.trace_log.proofs.Words.{◌≡◌, ◌≤◌, ◌∙◌, ◌++◌, ap, sym, subst, arith, take, drop, length, seen_clock}
use Rattle.trace_log.specs.Clock.{are_distinct}
use Rattle.trace_log.specs.Names.{names_in}
use Rattle.trace_log.specs.Look.{ArePlain, renumbered}
use Rattle.trace_log.proofs.Renumbered.{distinct_again, plain_renumbered}
use Rattle.trace_log.proofs.host.SeenHost.renumber.Goals as goal

pub invariant_of-self : goal.invariant_of-self
invariant_of-self c =
    let long : c.self.inside.clock.len ≡ length c.renumber.new.clock = omega (
      arith,
      c.as_mut_slice.ensures.len,
      c.renumber.auto.clock,
    ) in
    let whole = ap (λ n. take n (c.renumber.new.clock ++ drop (length c.renumber.new.clock)
    c.self.inside.clock.items)) long
    ∙ take-append_seam c.renumber.new.clock _ in
    let next = c.args.next.now in
    let clock = seen_clock c.self.inside.clock.items in
    let is = ap seen_clock whole ∙ c.renumber.ensures
    ∙ ap (λ l. renumbered (seen_clock l) next) c.as_mut_slice.ensures.value in
    let few : length clock ≤ length next = omega (arith, ap (λ h. length h.clock) c.self.view_is, c.requires) in (
      ap (λ l. are_distinct (names_in l)) is ∙ distinct_again clock next few c.self.invariant.0,
      λ plain. subst ArePlain (sym is) (plain_renumbered clock next (c.self.invariant.1 plain)),
    )
