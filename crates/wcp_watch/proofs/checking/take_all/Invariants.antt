use Rattle.wcp_watch.proofs.Words.{◌≡◌, ℕ, ◌<◌, true, ◌||◌, processes, IsSameWatch, closed_of, lost_of, IsSameTaker}
use Rattle.wcp_watch.proofs.Words.{KeepsUp, question_at}
use Rattle.wcp_watch.proofs.checking.take_all.Given as goal

abbrev pub invariant-loop : goal.invariant-loop
invariant-loop g l =
    record {
      goes_on : (goal.iterator-loop g).can_next l.iterator';
      ends : (goal.iterator-loop g).is_finite l.iterator';
      taker : IsSameTaker l.initial.taker l.taker;
      same : IsSameWatch l.initial.panel l.panel;
      keeps_up : KeepsUp l.taker l.panel;
      finished : l.finished ≡ true → (p : ℕ) → p < processes (question_at l.panel 0)
          → (closed_of (question_at l.panel 0) p || lost_of (question_at l.panel 0) p) ≡ true;
    }
