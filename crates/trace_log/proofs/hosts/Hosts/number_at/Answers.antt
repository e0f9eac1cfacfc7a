use Rattle.trace_log.proofs.Words.{◌≡◌, ◌∙◌, ◌<◌, [], ap, sym, arith, length, get_or, bytes_eq}
use Rattle.std.proofs.lemmas.Slice.Eq.{bytes_eq-Decides}
use Rattle.trace_log.specs.Hosts.{Host, host_at, number_among}
use Rattle.trace_log.proofs.hosts.Hosts.number_at.Goals as goal

pub returns-in-Some : goal.returns-in-Some
returns-in-Some c =
    let hosts = c.self.inside.list.items in
    let guess = c.number-guess.result in
    let nobody : Host = record { name = []; clock = [] } in
    let there = c.in-Some.ensures.lookup.3 in
    let within : guess < length hosts = omega (arith, there.0, ap length c.deref.ensures.value) in
    let is : c.in-Some.seen.now ≡ host_at hosts guess =
    there.1 nobody ∙ ap (λ l. get_or l guess nobody) c.deref.ensures.value in
    let same = (bytes_eq-Decides c.name.result.now c.args.name.now).0 (sym c.eq.ensures ∙ c.if-eq.true) in
    let named = ap (λ (h : Host). h.name) (sym is) ∙ sym c.name.ensures ∙ same in
    sym (c.self.invariant.1 guess within) ∙ ap (λ n. number_among n hosts) named
    ∙ ap (λ l. number_among c.args.name.now l) c.self.view_is
