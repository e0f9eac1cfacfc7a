use Rattle.std.specs.FinSet as set
use Rattle.wcp_script.proofs.Words.{◌≡◌, ◌-◌, list_all, range_with_len}
use Rattle.wcp_script.proofs.printing.are_all_watched.Given as goal

abbrev pub invariant-loop-p : goal.invariant-loop-p
invariant-loop-p l = list_all (set.contains l.watched) (range_with_len 0 l.n) ≡ list_all (set.contains l.watched)
    (range_with_len l.p (l.n - l.p))
