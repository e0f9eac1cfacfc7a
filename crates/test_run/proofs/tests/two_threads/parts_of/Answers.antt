use Rattle.std.proofs.Common.{◌≡◌, ◌<◌, Some, [], ◌∷◌, ◌++◌, length, ap, ◌∙◌, arith}
use Rattle.std.specs.Prelude.{slice_get}
use Rattle.std.proofs.lemmas.List.{length-append}
use Rattle.wcp_relay.proofs.Entries.{last_entry, earlier_entry}
use Rattle.wcp_relay.proofs.FreshProbes.{probes_fresh}
use Rattle.test_run.proofs.tests.two_threads.parts_of.Goals as goal

pub open_workers-requires-clause-probes : goal.open_workers-requires-clause-probes
open_workers-requires-clause-probes g c =
    probes_fresh c.workload_of-workload.result.plan 7 c.expect-opened.result
    (rw c.expect-opened.ensures at c.watch.ensures)

pub returns : goal.returns
returns g c =
    let all = rw c.expect-workers.ensures at c.open_workers.ensures in
    let workers = c.expect-workers.result.items in
    let rest = c.pop.new.self.items in
    let front = c.pop-2.new.self.items in
    let first = c.expect-first.result in
    let second = c.expect-second.result in
    let one : rest ≡ front ++ first ∷ [] = rw c.expect-first.ensures at c.pop-2.ensures.items in
    let two : workers ≡ rest ++ second ∷ [] = rw c.expect-second.ensures at c.pop.ensures.items in
    let within : length front < length rest =
    omega (arith, ap length one ∙ length-append front (first ∷ [])) in
    let first_at : slice_get workers (length front) ≡ Some first =
    ap (λ ws. slice_get ws (length front)) two ∙ earlier_entry rest (second ∷ []) (length front) within
    ∙ ap (λ ws. slice_get ws (length front)) one ∙ last_entry front first in
    let second_at : slice_get workers (length rest) ≡ Some second =
    ap (λ ws. slice_get ws (length rest)) two ∙ last_entry rest second in
    ((all.each _ first first_at).fresh, (all.each _ second second_at).fresh)
