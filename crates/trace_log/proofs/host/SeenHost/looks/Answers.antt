use Rattle.trace_log.proofs.Words.{◌∙◌, ◌<◌, ◌≤◌, ap, subst, length, string_bytes, seen_clock, number_of}
use Rattle.trace_log.specs.Clock.{are_distinct}
use Rattle.trace_log.specs.Names.{names_in}
use Rattle.trace_log.specs.Look.{LooksOn, Renumbers, renumbered}
use Rattle.trace_log.specs.Spelling.{clock_spelled}
use Rattle.trace_log.proofs.Renumbered.{looks_on}
use Rattle.trace_log.proofs.host.SeenHost.looks.Goals as goal

pub returns : goal.returns
returns c is =
    let clock = seen_clock c.self.inside.clock.items in
    let name = string_bytes c.self.inside.name in
    let next = c.looks_at.new.next in
    let spelled = clock_spelled c.args.spelled in
    let here = ap seen_clock c.as_slice.ensures.value in
    let there = ap seen_clock c.as_slice-2.ensures.value in
    let looked = c.looks_at.ensures c.if-not-looks_at.false in
    let rises = c.rises.ensures is (ap (λ k. are_distinct (names_in k)) there ∙ c.self.invariant.0) in
    let named = subst (λ n. length (seen_clock c.as_slice-2.result.now) ≤ length next →
    number_of n (seen_clock c.as_slice-2.result.now) < number_of n (renumbered (seen_clock c.as_slice-2.result.now)
    next))
    c.as_str.ensures.value rises in
    let own = subst (λ k. length k ≤ length next → number_of name k < number_of name (renumbered k next)) there named in
    subst (λ h. LooksOn h.name h.clock spelled next) c.self.view_is (
    looks_on name clock spelled next c.self.inside.is_plain c.self.invariant.1 c.self.invariant.0
    (subst (λ k. Renumbers c.self.inside.is_plain spelled k next) here looked) own
    )
