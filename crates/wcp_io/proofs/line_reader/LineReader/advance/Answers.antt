use Rattle.wcp_io.proofs.Words.{◌≡◌, ◌<◌, ap, subst, arith, true, false, length, vec_len, Consumes-kept, Moves}
use Rattle.std.proofs.Common.{Ok, not}
use Rattle.wcp_io.proofs.Given.{at_end, gets_longer, gives_last, gives_whole, goes_on, some_byte}
use Rattle.wcp_io.proofs.line_reader.LineReader.advance.Goals as goal

pub returns-then-branch-clause-line : goal.returns-then-branch-clause-line
returns-then-branch-clause-line g c _ =
    let old = c.loop-self.self in
    let moved = subst (Moves c.fill.new.self old.line.items c.take_part.new.self.ahead c.take_part.new.self.line.items)
    c.if-branch.true c.in_ok-take_part.ensures.ok in
    gives_whole _ _ c.fill.new.self old.line.items _ _
    (Consumes-kept _ _ _ old.line.items c.loop-self.invariant.consumed c.in_ok-fill.ensures.bytes)
    c.loop-self.invariant.no_feed moved

pub loop-self-preserved : goal.loop-self-preserved
loop-self-preserved g c =
    let old = c.loop-self.self in
    let moved = subst (Moves c.fill.new.self old.line.items c.take_part.new.self.ahead c.take_part.new.self.line.items)
    c.if-branch.false c.in_ok-take_part.ensures.ok in
    let on = goes_on _ _ c.fill.new.self old.line.items _ _
    (Consumes-kept _ _ _ old.line.items c.loop-self.invariant.consumed c.in_ok-fill.ensures.bytes)
    c.loop-self.invariant.no_feed moved in
    record { consumed = on.consumed; no_feed = on.no_feed; within = omega (arith, on.within) }

pub returns-then-not-branch-clause-line : goal.returns-then-not-branch-clause-line
returns-then-not-branch-clause-line g c given =
    let line = c.loop-self.self.line.items in
    let some : not c.is_empty.result ≡ true = cc in
    let long : 0 < length line =
    omega (arith, some_byte c.is_empty.result (vec_len c.loop-self.self.line) c.is_empty.ensures some) in
    let is : Ok c.in_ok-fill.field-0 ≡ Ok false = ap Ok c.if-not-branch.true in
    gives_last _ _ line c.loop-self.invariant.no_feed (omega arith) long
    (Consumes-kept _ _ _ line c.loop-self.invariant.consumed c.in_ok-fill.ensures.bytes)
    (at_end c.fill.new.self (g.I.Read.remaining c.fill.new.input) (c.in_ok-fill.ensures.none is)
    (c.in_ok-fill.ensures.ended is))

pub loop-self-smaller : goal.loop-self-smaller
loop-self-smaller g c =
    let old = c.loop-self.self in
    let moved = subst (Moves c.fill.new.self old.line.items c.take_part.new.self.ahead c.take_part.new.self.line.items)
    c.if-branch.false c.in_ok-take_part.ensures.ok in
    let some = c.in_ok-fill.ensures.some (ap Ok c.if-not-branch.false) in
    omega (arith, gets_longer c.fill.new.self old.line.items _ _ some moved)
