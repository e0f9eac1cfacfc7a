use Rattle.trace_detect.proofs.Words.{ℕ, List, Option, Logged, Condition}
use Rattle.wcp_io.specs.Reader.{left}
use Rattle.trace_log.specs.declared.turn.Form.{Form}
use Rattle.trace_detect.specs.Moments.{CanFollow, IsFollowing, IsOnTheWay}
use Rattle.trace_detect.proofs.moments.Moments.next_moment.Given as goal

abbrev pub invariant-loop : goal.invariant-loop
invariant-loop g l =
    let remaining = g.I.Read.remaining in
    record {
      can : CanFollow (left l.self.events.lines (remaining l.input)) l.self;
      way : (form : Form) (conditions : List Condition) (known : Option (List ℕ)) (told : Option (ℕ → Logged))
          (at : List Logged) → IsFollowing form conditions known
          (left l.initial.self.events.lines (remaining l.initial.input)) told at l.initial.self
          → IsOnTheWay form conditions known (left l.self.events.lines (remaining l.input)) told at l.self;
    }
