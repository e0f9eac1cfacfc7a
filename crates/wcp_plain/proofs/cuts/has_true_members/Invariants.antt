use Rattle.wcp_plain.proofs.Words.{ℕ, ◌<◌, ◌^◌, IsTrueState, member, Names}
use Rattle.wcp_plain.proofs.cuts.has_true_members.Given as goal

abbrev pub invariant-loop-p : goal.invariant-loop-p
invariant-loop-p l =
    record {
      few : (p : ℕ) → p < l.p → Names l.cut p → p < 2 ^ 32;
      true_states : (p : ℕ) → p < l.p → Names l.cut p → IsTrueState l.steps (member l.cut p);
    }
