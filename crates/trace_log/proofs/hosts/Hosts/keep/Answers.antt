use Rattle.trace_log.proofs.Words.{◌∙◌, ap, sym, subst, arith}
use Rattle.std.proofs.Math.ListN.{set}
use Rattle.trace_log.specs.Views.{seen_clock}
use Rattle.trace_log.specs.Hosts.{KeepsClock}
use Rattle.trace_log.proofs.HostNumbers.{number_is, number-set, numbered-set, keeps-set, host_read, number_of_view}
use Rattle.trace_log.proofs.hosts.Hosts.keep.Goals as goal

pub index_mut-requires : goal.index_mut-requires
index_mut-requires c =
    let is = number_of_view c.self.inside.list.items _ c.args.name.now c.in-Some.number c.number.result
    c.self.view_is c.number.ensures c.in-Some.is in
    omega (
      arith,
      (number_is c.args.name.now c.self.inside.list.items c.in-Some.number is).within,
      c.self.inside.list.ok.0,
    )

pub invariant_of-self : goal.invariant_of-self
invariant_of-self c =
    let hosts = c.self.inside.list.items in
    let is = number_of_view hosts _ c.args.name.now c.in-Some.number c.number.result c.self.view_is c.number.ensures
    c.in-Some.is in
    let written = host_read hosts c.args.name.now c.in-Some.number c.index_mut.result.now is
    c.index_mut.ensures.value in
    let named = ap (λ h. h.name) c.put.ensures ∙ ap (λ h. h.name) written in (
      λ other. c.self.invariant.0 other ∙ sym (number-set hosts c.in-Some.number c.put.new.self other named),
      numbered-set hosts c.in-Some.number c.put.new.self named c.self.invariant.1,
    )

pub returns-in-Some-clause-kept : goal.returns-in-Some-clause-kept
returns-in-Some-clause-kept c =
    let hosts = c.self.inside.list.items in
    let name = c.args.name.now in
    let i = c.in-Some.number in
    let new = c.put.new.self in
    let is = number_of_view hosts _ name i c.number.result c.self.view_is c.number.ensures c.in-Some.is in
    let written = host_read hosts name i c.index_mut.result.now is c.index_mut.ensures.value in
    let named = ap (λ h. h.name) c.put.ensures ∙ ap (λ h. h.name) written ∙ (number_is name hosts i is).named in
    let kept = subst (λ l. KeepsClock hosts name l i (set hosts i new)) (ap (λ h. h.clock) c.put.ensures)
    (keeps-set hosts i new name is named) in
    subst (λ all. KeepsClock all name (seen_clock c.args.clock.items) i (set hosts i new))
    (c.self.view_is ∙ c.make_room.ensures) kept
