use Rattle.wcp_queue.proofs.Words.{◌≡◌, ◌≤◌, refl, ◌∙◌, subst, length, arith, Some, slice_get, slice_get_past, row_of}
use Rattle.wcp_queue.proofs.WatchedRows.{AreEntries, entries_with, entries_without, cut_entries}
use Rattle.wcp_queue.proofs.checker.cut_of.Goals as goal
use Rattle.wcp_queue.proofs.checker.cut_of.Goals.{in-Some, in_default}

pub loop-p-preserved : goal.loop-p-preserved
loop-p-preserved c =
    let members = c.args.members.now in
    let intervals = c.args.intervals.now in
    elim c.match-find_row.branch [
      | in-Some w ↦
          let at : slice_get intervals (row_of members c.loop-p.p) ≡ Some w.get.result =
          subst (λ row. slice_get intervals row ≡ Some w.get.result) w.in-Some.ensures.row
          (w.get.ensures.there (omega (arith, w.in-Some.ensures.within, c.requires.each))) in
          rw w.cut-is (entries_with c.loop-p.cut c.loop-p.p members intervals c.loop-p.invariant w.get.result
          (omega (arith, c.requires.few)) at)
      | in_default w ↦
          let past : length intervals ≤ row_of members c.loop-p.p =
          omega (arith, c.requires.each, c.find_row.ensures.none (rw w.in_default.is refl)) in
          rw w.cut-is (entries_without c.loop-p.cut c.loop-p.p members intervals c.loop-p.invariant
          (slice_get_past intervals (row_of members c.loop-p.p) past))
    ]

pub returns : goal.returns
returns c =
    let all : c.loop-p.p ≡ c.args.n = omega arith in
    let are = subst (λ n. AreEntries c.loop-p.cut n c.args.members.now c.args.intervals.now) all c.loop-p.invariant in
    c.new.ensures ∙ cut_entries c.loop-p.cut c.args.n c.args.members.now c.args.intervals.now are c.requires.few
