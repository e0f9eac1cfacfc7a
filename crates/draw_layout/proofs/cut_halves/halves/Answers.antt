use Rattle.draw_layout.proofs.cut_halves.halves.Goals as goal

pub mark_past-requires-clause-cut : goal.mark_past-requires-clause-cut
mark_past-requires-clause-cut c =
    let may = rw c.in-Some.is at c.requires.cut in
    rw may.1.members.processes (record {
      few = c.requires.few;
      within = c.requires.within;
      fit = c.requires.fit;
      numbered = c.requires.intervals;
      sends = c.requires.sends;
      satisfying = may;
    })
