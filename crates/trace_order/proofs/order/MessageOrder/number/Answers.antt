use Rattle.std.proofs.Common.{◌≡◌, ◌∙◌, ◌++◌, ◌∷◌, [], length, ap, refl, sym, subst, arith}
use Rattle.std.proofs.lemmas.List.{map-append, length-map, length_push}
use Rattle.trace_order.specs.Orders.{HostState}
use Rattle.trace_order.specs.State.{waits_in, clocks_in, names_in, AreDistinct}
use Rattle.trace_order.proofs.Hosts.{added_waits, added_clocks, added_distinct}
use Rattle.trace_order.proofs.Ordering.{ordered_same}
use Rattle.trace_order.proofs.order.MessageOrder.number.Goals as goal

pub returns-clause-stays : goal.returns-clause-stays
returns-clause-stays c = λ log given ordered.
    let hosts = c.args.self.now.hosts.items in
    let name_is = ap (λ h. h.name) c.new.ensures ∙ c.in_ok-name.ensures.ok in
    let names : names_in c.push.new.self.items ≡ names_in hosts ++ c.args.name.now ∷ [] =
    ap names_in c.in_ok-push.ensures.items ∙ map-append (λ (h : HostState). h.name) hosts (c.new.result ∷ [])
    ∙ ap (λ n. names_in hosts ++ n ∷ []) name_is in
    let distinct = added_distinct (names_in hosts) c.args.name.now ordered.named
    (λ i within same. c.in_default.ensures.none i (omega (arith, within, length-map hosts (λ (h : HostState). h.name)))
    same) in
    ordered_same log given c.args.self.now _
    (λ host. ap (λ l. waits_in l host) c.in_ok-push.ensures.items
    ∙ added_waits hosts c.new.result (ap (λ h. h.waits) c.new.ensures) host)
    (λ host. ap (λ l. clocks_in l host) c.in_ok-push.ensures.items
    ∙ added_clocks hosts c.new.result (ap (λ h. h.clock) c.new.ensures) host)
    refl refl (subst AreDistinct (sym names) distinct)
    (omega (arith, ap length names, length_push (names_in hosts) c.args.name.now)) ordered

pub returns-in_err-push-clause-stays : goal.returns-in_err-push-clause-stays
returns-in_err-push-clause-stays c = λ log given ordered.
    let same = c.in_err-push.ensures.items in
    let names = ap names_in same in
    ordered_same log given c.args.self.now _ (λ host. ap (λ l. waits_in l host) same)
    (λ host. ap (λ l. clocks_in l host) same) refl refl (subst AreDistinct (sym names) ordered.named)
    (omega (arith, ap length names)) ordered
