use Rattle.wcp_io.proofs.Words.{◌-◌, ◌<◌, vec_len, Consumes, HasNoFeed, left, most_given}
use Rattle.wcp_io.proofs.line_reader.LineReader.advance.Given as goal

abbrev pub invariant-loop-self : goal.invariant-loop-self
invariant-loop-self g l =
    let remaining = g.I.Read.remaining in
    record {
      consumed : Consumes (left l.fn.self (remaining l.fn.input)) (left l.self (remaining l.input)) l.self.line.items;
      no_feed : HasNoFeed l.self.line.items;
      within : vec_len l.self.line < most_given;
    }

-- The room in the line.
abbrev pub decreases-loop-self : goal.decreases-loop-self
decreases-loop-self g l = most_given - vec_len l.self.line
