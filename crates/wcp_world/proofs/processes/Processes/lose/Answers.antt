use Rattle.std.proofs.Common.{◌≡◌}
use Rattle.wcp_world.proofs.Words.{None, Some, Option, length, is_some, option_to_list, Note, refl, sym, ◌∙◌}
use Rattle.wcp_world.proofs.Words.{slice_get_read}
use mir.Val.{bool_byte}
use Rattle.wcp_world.proofs.AnsweredEvents.{lose_reasons, loses}
use Rattle.wcp_world.proofs.processes.Processes.lose.Goals as goal

-- a pending note counts one
one_if_pending : (o : Option Note) → bool_byte (is_some o) ≡ length (option_to_list o)
one_if_pending None = refl
one_if_pending (Some note) = refl

pub returns-then-closed-clause-answered : goal.returns-then-closed-clause-answered
returns-then-closed-clause-answered c =
    let core = c.in-Some.probe.now in
    let at = slice_get_read c.self.inside.probes.items _ c.args.p core c.self.inside.probes.ok.0
    (c.in-Some.ensures.variant.0 refl) c.in-Some.ensures.value in
    rw (← c.self.view_is) (λ n watched flag c' put stands. lose_reasons n watched flag c' put _ stands c.args.p core at
    ∙ rw (← c.closed.ensures, c.if-closed.true) refl)

pub returns-clause-answered : goal.returns-clause-answered
returns-clause-answered c =
    let core = c.in-Some.probe.now in
    let at = slice_get_read c.self.inside.probes.items _ c.args.p core c.self.inside.probes.ok.0
    (c.in-Some.ensures.variant.0 refl) c.in-Some.ensures.value in
    rw (← c.self.view_is) (λ n watched flag c' put stands.
    let (none, count, after) = loses n watched flag c' put _ stands c.args.p core at c.lose.new.self
    (sym c.closed.ensures ∙ c.if-closed.false) c.lose.ensures in (
      none,
      rw (
        c.saturating_sub-put.ensures,
        c.emitted.ensures,
        c.from-unput.ensures,
        c.is_some.ensures,
        c.pending.ensures.variant,
        one_if_pending core.pending,
      ) count,
      after,
    ))
