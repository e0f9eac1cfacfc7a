use Rattle.trace_log.proofs.Words.{◌≡◌, false, ◌∙◌, ap, sym, subst, length, arith}
use Rattle.std.proofs.Math.ListN.{set}
use Rattle.trace_log.specs.Hosts.{host_at, clock_among, KeepsClock, SpellsNext}
use Rattle.trace_log.specs.Order.{is_in_cycle}
use Rattle.trace_log.specs.Spelling.{clock_spelled}
use Rattle.trace_log.specs.Look.{LooksOn, renumbered}
use Rattle.trace_log.proofs.HostNumbers.{number_is, number-set, numbered-set, keeps-set, spells_next, host_read, number_of_view}
use Rattle.trace_log.proofs.HostNumbers.{room_kept}
use Rattle.trace_log.proofs.hosts.Hosts.follow.Goals as goal

pub index-requires : goal.index-requires
index-requires c =
    let is = number_of_view c.self.inside.list.items _ c.args.name.now c.in_ok-number.number c.number.result
    c.self.view_is c.number.ensures c.in_ok-number.was in
    omega (
      arith,
      (number_is c.args.name.now c.self.inside.list.items c.in_ok-number.number is).within,
      c.self.inside.list.ok.0,
    )

pub index_mut-requires : goal.index_mut-requires
index_mut-requires c =
    let is = number_of_view c.self.inside.list.items _ c.args.name.now c.in_ok-number.number c.number.result
    c.self.view_is c.number.ensures c.in_ok-number.was in
    omega (
      arith,
      (number_is c.args.name.now c.self.inside.list.items c.in_ok-number.number is).within,
      c.self.inside.list.ok.0,
    )

pub renumber-requires : goal.renumber-requires
renumber-requires c =
    let hosts = c.self.inside.list.items in
    let is = number_of_view hosts _ c.args.name.now c.in_ok-number.number c.number.result
    c.self.view_is c.number.ensures c.in_ok-number.was in
    let read = host_read hosts c.args.name.now c.in_ok-number.number c.index.result.now is c.index.ensures in
    let written = host_read hosts c.args.name.now c.in_ok-number.number c.index_mut.result.now is
    c.index_mut.ensures.value in
    let looked = (c.looks.ensures c.if-not-looks.false).as_many in
    let kept = c.as_slice-3.ensures.value ∙ room_kept c.self.inside.next.len c.self.inside.next.items c.looks.new.next
    c.self.inside.next.ok.0 (c.looks.auto.next ∙ ap length c.as_mut_slice.ensures.value) in
    omega (arith, ap length kept, looked, ap (λ h. length h.clock) (written ∙ sym read))

pub invariant_of-self-3 : goal.invariant_of-self-3
invariant_of-self-3 c =
    let hosts = c.self.inside.list.items in
    let is = number_of_view hosts _ c.args.name.now c.in_ok-number.number c.number.result
    c.self.view_is c.number.ensures c.in_ok-number.was in
    let written = host_read hosts c.args.name.now c.in_ok-number.number c.index_mut.result.now is
    c.index_mut.ensures.value in
    let named = ap (λ h. h.name) c.renumber.ensures ∙ ap (λ h. h.name) written in (
      λ other. c.self.invariant.0 other ∙ sym (number-set hosts c.in_ok-number.number c.renumber.new.self other named),
      numbered-set hosts c.in_ok-number.number c.renumber.new.self named c.self.invariant.1,
    )

pub returns-clause-some : goal.returns-clause-some
returns-clause-some c =
    let hosts = c.self.inside.list.items in
    let name = c.args.name.now in
    let i = c.in_ok-number.number in
    let next = c.looks.new.next in
    let new = c.renumber.new.self in
    let is = number_of_view hosts _ name i c.number.result c.self.view_is c.number.ensures c.in_ok-number.was in
    let read = host_read hosts name i c.index.result.now is c.index.ensures in
    let written = host_read hosts name i c.index_mut.result.now is c.index_mut.ensures.value in
    let room = room_kept c.self.inside.next.len c.self.inside.next.items next c.self.inside.next.ok.0
    (c.looks.auto.next ∙ ap length c.as_mut_slice.ensures.value) in
    let kept = c.as_slice-3.ensures.value ∙ room in
    let kept_before = c.as_slice-2.ensures.value ∙ room in
    let spelled = clock_spelled c.args.spelled in
    let looked = subst (λ h. LooksOn h.name h.clock spelled next) read (c.looks.ensures c.if-not-looks.false) in
    let clock = ap (λ h. h.clock) c.renumber.ensures ∙ ap (λ h. renumbered h.clock c.as_slice-3.result.now) written
    ∙ ap (λ l. renumbered (host_at hosts i).clock l) kept in
    let named = ap (λ h. h.name) c.renumber.ensures ∙ ap (λ h. h.name) written ∙ (number_is name hosts i is).named in
    let none = subst (λ l. is_in_cycle (λ other. clock_among other hosts) (host_at hosts i).name
    (renumbered (host_at hosts i).clock l) ≡ false) kept_before
    (c.next_may_cycle.ensures c.if-next_may_cycle.false (omega (arith, looked.as_many, ap length kept_before))
    (subst (λ other. clock_among other hosts ≡ (host_at hosts i).clock) (sym (number_is name hosts i is).named)
    (number_is name hosts i is).clock)) in
    let spells = subst (λ l. SpellsNext hosts name spelled l) (sym clock)
    (spells_next hosts name spelled i next is looked none) in (
      new.clock,
      subst (λ all. SpellsNext all name spelled new.clock) c.self.view_is spells,
      subst (λ all. KeepsClock all name new.clock i (set hosts i new)) c.self.view_is (keeps-set hosts i new name is
          named),
    )
