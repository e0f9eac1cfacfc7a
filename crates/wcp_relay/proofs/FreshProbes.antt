-- The probes of a wired watch are fresh.
use Rattle.wcp_relay.proofs.Words.{◌≡◌, ℕ, Some, sym, ap, ◌∙◌, arith, slice_get_within, Plan, LiveSide, fresh_core}
use Rattle.wcp_relay.proofs.Words.{setup}
use Rattle.wcp_probe.specs.Core.{Core}
use Rattle.wcp_relay.specs.LiveProbe.{AreFreshProbes}
use Rattle.wcp_relay.specs.declared.parts.Watch.{Watch}
use Rattle.wcp_relay.specs.Watches.{IsWired}

pub probes_fresh : (plan : Plan) (number : ℕ) (watch : Watch) → IsWired plan number watch
    → AreFreshProbes plan.n plan.watched plan.flag watch.probes.items
probes_fresh plan number watch wired =
    record {
      count = wired.rings.probes_count;
      each = λ p probe at.
          let ring = wired.rings.each p
          (omega (arith, slice_get_within watch.probes.items p probe at, wired.rings.probes_count)) in
          let two : Some ring.probe ≡ Some probe = sym ring.is_probe ∙ at in
          let is : ring.probe ≡ probe = cc in
          let core : probe.core ≡ fresh_core number (setup plan.n plan.watched plan.flag p) =
          ap (λ (s : LiveSide). s.core) (sym is) ∙ ring.fresh in (
            core
                ∙ ap (λ w. fresh_core w (setup plan.n plan.watched plan.flag p))
                (sym (ap (λ (c : Core). c.watch) core)),
            ap (λ (s : LiveSide). s.link.put) (sym is) ∙ ring.empty,
          );
    }
