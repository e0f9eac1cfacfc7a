use Rattle.trace_detect.proofs.Words.{refl}
use Rattle.wcp_io.specs.Reader.{left}
use Rattle.trace_log.specs.Reading.{ReadsNext}
use Rattle.trace_log.specs.Turns.{seen_logged}
use Rattle.trace_detect.proofs.Detecting.{is_last, never_none}
use Rattle.trace_detect.proofs.Following.{knows_none_behind}
use Rattle.trace_detect.proofs.OnTheWay.{fault_behind, hands_one}
use Rattle.trace_detect.proofs.moments.read_one.Goals as goal

pub returns-in_err-next_event : goal.returns-in_err-next_event
returns-in_err-next_event g c form conditions known told before read watching =
    let rest = left c.next_event.new.self.lines (g.I.Read.remaining c.next_event.new.input) in
    hands_one form conditions known rest told before c.args.watcher.now c.args.watcher.now c.next_event.new.self.log _ _
    c.from_residual.ensures (fault_behind form conditions known rest told before c.next_event.new.self.log
    c.in_err-next_event.field-0.0 (c.in_err-next_event.ensures.reads form known before read)
    (knows_none_behind conditions told before c.args.watcher.now watching c.requires.unknown))

pub returns-then-not-branch : goal.returns-then-not-branch
returns-then-not-branch g c form conditions known told before read watching =
    (rw c.if-not-branch.true at (c.in_ok-next_event.ensures.reads form known before read), refl)

pub unreachable-requires : goal.unreachable-requires
unreachable-requires g c =
    let given = c.requires.can in
    let rest = left c.next_event.new.self.lines (g.I.Read.remaining c.next_event.new.input) in
    never_none (λ one. ReadsNext given.form given.input rest given.before one c.next_event.new.self.log) c.event.result _
    c.event.ensures c.in_default.is
    (rw c.if-not-branch.false at (c.in_ok-next_event.ensures.reads given.form given.input given.before given.read))

pub returns : goal.returns
returns g c form conditions known told before read watching =
    let rest = left c.next_event.new.self.lines (g.I.Read.remaining c.next_event.new.input) in
    let reads = is_last (λ one. ReadsNext form known rest before one c.next_event.new.self.log) c.event.result _
    c.in-Some.logged c.event.ensures c.in-Some.is
    (rw c.if-not-branch.false at (c.in_ok-next_event.ensures.reads form known before read)) in
    let took = c.in_ok-known.ensures.next conditions told before watching reads.follows in
    record {
      one = seen_logged c.in-Some.logged;
      reads = reads;
      watching = took.0;
      all = c.in_ok-known.ensures.all conditions told before watching reads.follows;
      knows = took.1;
    }
