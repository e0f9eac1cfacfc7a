use Rattle.std.proofs.Math.ListN.{get_or-map, set}
use Rattle.std.proofs.lemmas.List.{length-set}
use Rattle.std.specs.Option.{ok_or}
use Rattle.trace_log.proofs.Words.{◌∙◌, ◌<◌, ◌>>=◌, ap, sym, subst, Ok, length, take, arith}
use Rattle.trace_log.proofs.Words.{add-one, take_all}
use Rattle.trace_log.proofs.Words.{Member, seen_member, seen_clock, members_view, clock_of}
use Rattle.trace_log.proofs.Words.{bytes_eq-Decides}
use Rattle.trace_log.specs.declared.fault.LogFaultKind.TheVariants as kind
use Rattle.trace_log.specs.Look.{renumbered, AreNoLower}
use Rattle.trace_log.proofs.Words.{◌++◌, ◌∷◌, [], ◌+◌, drop}
use Rattle.trace_log.proofs.Clocks.{clock_more_at, clock_ends, with_front}
use Rattle.trace_log.proofs.Falls.{seen-length}
use Rattle.trace_log.proofs.Passing.{renumbered-next, no_lower-next}
use Rattle.trace_log.proofs.members.look_at.Goals as goal

pub returns : goal.returns
returns c is =
    let clock = seen_clock c.args.before.now in
    let size = seen-length c.args.before.now in
    let i = c.loop-place.place in
    let all = take_all i clock (omega (arith, size)) in
    record {
      is = clock_ends (renumbered (take i clock) c.loop-place.next) c.args.members.now i
          (clock_of (members_view c.args.members.now)) (omega arith) c.loop-place.invariant.1
          ∙ ap (λ l. Ok (renumbered l c.loop-place.next)) all;
      no_lower = subst (λ l. AreNoLower l c.loop-place.next) all c.loop-place.invariant.2;
    }

pub loop-place-preserved : goal.loop-place-preserved
loop-place-preserved c =
    let clock = seen_clock c.args.before.now in
    let size = seen-length c.args.before.now in
    let numbers = c.loop-place.next in
    let i = c.loop-place.place in
    let number = c.in-Some.number in
    let within : i < length clock = omega (arith, size) in
    let room : i < length numbers = omega (arith, size, c.loop-place.invariant.0) in
    let d = c.index-members-place.result in
    let one = seen_member c.index-before-place.result in
    let at = get_or-map seen_member c.args.before.now i c.index-before-place.result
    ∙ ap seen_member (sym c.index-before-place.is) in
    let named = ap (λ (m : Member). m.name) at
    ∙ (bytes_eq-Decides _ d.0.now).0 (sym c.has_name.ensures ∙ c.if-not-has_name.false) in
    let made : Member = record { name = d.0.now; number = number } in
    let read = ap (λ o. ok_or o kind.Clock >>= λ n. Ok (record { name = d.0.now; number = n }))
    (sym c.number_in.ensures ∙ c.in-Some.is) in
    let front = renumbered-next clock numbers i number one within room
    ∙ ap (λ n. renumbered (take i clock) numbers ++ (record { name = n; number = number }) ∷ []) named in
    let inside : i < length c.args.members.now = omega (arith, within, size) in
    let more = clock_more_at (renumbered (take i clock) numbers) c.args.members.now i d made
    (clock_of (members_view c.args.members.now)) inside c.index-members-place.is c.loop-place.invariant.1 read in (
      length-set numbers i number ∙ c.loop-place.invariant.0,
      ap (λ k. with_front (renumbered (take k clock) (set numbers i number))
          (clock_of (members_view (drop (i + 1) c.args.members.now)))) (add-one i)
          ∙ ap (λ l. with_front l (clock_of (members_view (drop (i + 1) c.args.members.now)))) front ∙ more,
      rw add-one (no_lower-next clock numbers i number one within room (rw at c.if-number-one.false)
          c.loop-place.invariant.2),
    )
