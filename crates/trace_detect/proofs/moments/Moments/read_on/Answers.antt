use Rattle.trace_detect.proofs.Words.{arith}
use Rattle.wcp_io.specs.Reader.{left}
use Rattle.trace_detect.proofs.OnTheWay.{ends_way, old_watching, reads_way}
use Rattle.trace_detect.proofs.moments.Moments.read_on.Goals as goal

pub returns-in_default-2 : goal.returns-in_default-2
returns-in_default-2 g c form conditions known told at way =
    let old = c.args.self.now in
    let rest = left old.events.lines (g.I.Read.remaining c.args.input.now) in
    let after = left c.read_one.new.events.lines (g.I.Read.remaining c.read_one.new.input) in
    let ends = rw c.in_default-2.is at
    (c.in_ok-known.ensures form conditions known told way.logged (rw c.requires.goes_on at way.following.read)
    (old_watching form conditions known rest after told at old old way c.requires.unknown)) in
    ends_way form conditions known rest after told at old c.read_one.new.watcher way c.requires.unknown ends
    c.read_one.new.events

pub returns : goal.returns
returns g c form conditions known told at way =
    let old = c.args.self.now in
    let rest = left old.events.lines (g.I.Read.remaining c.args.input.now) in
    let after = left c.read_one.new.events.lines (g.I.Read.remaining c.read_one.new.input) in
    let takes = rw c.in-Some-2.is at
    (c.in_ok-known.ensures form conditions known told way.logged (rw c.requires.goes_on at way.following.read)
    (old_watching form conditions known rest after told at old old way c.requires.unknown)) in
    reads_way form conditions known rest after told at old (record old {
      events = c.read_one.new.events;
      watcher = c.read_one.new.watcher;
      known = c.in-Some-2.known;
      count = c.in-Some.count;
    }) way c.requires.unknown takes c.requires.goes_on (omega (arith, c.in-Some.ensures))
