use Rattle.wcp_queue.proofs.Words.{List, Item, Intervals, arith, checker_state, row_of}
use Rattle.wcp_queue.proofs.Words.{StandsForItems, interval_of, ◌≤◌}
use Rattle.wcp_model.specs.Report.{IsNamed}
use Rattle.wcp_queue.specs.Candidates.{IsCutToCome}
use Rattle.wcp_queue.proofs.SoundCheckers.{few_queues}
use Rattle.wcp_queue.proofs.CutsToCome.{named-found, at_or_below-found, named-head, at_or_below-head, all_below-no_head}
use Rattle.wcp_queue.proofs.CutsToCome.{of_head, without_head}
use Rattle.wcp_queue.proofs.checker.Checker.first_candidate.Goals as goal

pub returns-in-Some-clause-taken : goal.returns-in-Some-clause-taken
returns-in-Some-clause-taken c =
    let checker = checker_state c.self.inside in
    let member = rw (← c.self.view_is) at c.requires in
    let row = rw (← c.self.view_is) at c.row_of_watched-row.ensures.row in
    rw (c.get.ensures.value, row, ← c.self.view_is) (λ items stands.
    named-found checker c.self.invariant c.args.p member items stands c.in-Some.intervals c.in-Some.is)

pub returns-in-Some-clause-at_or_above : goal.returns-in-Some-clause-at_or_above
returns-in-Some-clause-at_or_above c =
    let checker = checker_state c.self.inside in
    let member = rw (← c.self.view_is) at c.requires in
    let row = rw (← c.self.view_is) at c.row_of_watched-row.ensures.row in
    rw (c.get.ensures.value, row, ← c.self.view_is) (λ items cut stands come. at_or_below-found checker
    c.self.invariant c.args.p member items stands c.in-Some.intervals c.in-Some.is cut come)

pub head-requires : goal.head-requires
head-requires c =
    let checker = checker_state c.self.inside in
    let within = rw (← c.self.view_is) at c.row_of_watched-row.ensures.within in
    omega (arith, within, few_queues checker c.self.invariant, c.self.invariant.rows)

pub returns-clause-taken : goal.returns-clause-taken
returns-clause-taken c =
    let checker = checker_state c.self.inside in
    let member = rw (← c.self.view_is) at c.requires in
    let row = rw (← c.self.view_is) at c.row_of_watched-row.ensures.row in
    rw (c.head.ensures, row, ← c.self.view_is) (of_head checker.floor (row_of checker.members c.args.p)
    (λ first. (items : List Item) → StandsForItems checker items
    → IsNamed items (record { process = c.args.p; interval = first }))
    (λ has items stands. named-head checker c.self.invariant c.args.p member items stands c.in_default.is
    c.if-self.false has))

pub returns-clause-at_or_above : goal.returns-clause-at_or_above
returns-clause-at_or_above c =
    let checker = checker_state c.self.inside in
    let member = rw (← c.self.view_is) at c.requires in
    let row = rw (← c.self.view_is) at c.row_of_watched-row.ensures.row in
    rw (c.head.ensures, row, ← c.self.view_is) (of_head checker.floor (row_of checker.members c.args.p)
    (λ first. (items : List Item) (cut : Intervals) → StandsForItems checker items → IsCutToCome checker items cut
    → first ≤ interval_of cut c.args.p)
    (λ has items cut stands come. at_or_below-head checker c.self.invariant c.args.p member items stands
    c.in_default.is c.if-self.false has cut come))

pub returns-clause-none : goal.returns-clause-none
returns-clause-none c =
    let checker = checker_state c.self.inside in
    let member = rw (← c.self.view_is) at c.requires in
    let row = rw (← c.self.view_is) at c.row_of_watched-row.ensures.row in
    rw (c.head.ensures, row, ← c.self.view_is) (λ none fed items cut stands come. all_below-no_head checker
    c.self.invariant c.args.p member items stands c.in_default.is fed
    (without_head checker.floor (row_of checker.members c.args.p) none) cut come)
