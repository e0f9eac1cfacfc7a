use Rattle.std.proofs.Common.{◌≡◌, All, Some, slice_get, sym, ap, subst, ◌∙◌}
use Rattle.std.proofs.lemmas.List.Elements.{All-pop, All-push}
use Rattle.wcp_relay.specs.RelayEnds.{fault_of}
use Rattle.wcp_watch.specs.Settling.{IsEndOfSomeRelay}
use Rattle.wcp_watch.proofs.WatchEnds.{where_none}
use Rattle.test_watch.proofs.tests.settling.run_all.Goals as goal

pub loop-relay-preserved : goal.loop-relay-preserved
loop-relay-preserved g c =
    let all = c.args.relays.items in
    let split = All-pop (λ relay. slice_get all relay.number ≡ Some relay) _ _
    (Some c.in-Some.relay) c.in-Some.ensures.items c.loop-relay.invariant.0 in (
      split.0,
      subst (All (IsEndOfSomeRelay all)) (sym c.in_ok-push.ensures.items)
          (All-push (IsEndOfSomeRelay all) c.loop-relay.ends.items c.run.result c.loop-relay.invariant.1 (record {
            relay = c.in-Some.relay;
            is_relay = ap (slice_get all) c.run.ensures.number ∙ split.1;
            receipts = where_none (fault_of c.run.result) c.run.ensures.receipts;
            whole = c.run.ensures.whole;
          })),
    )
