use Rattle.std.proofs.Common.{◌≡◌, length}
use Rattle.example_pool.proofs.job.JobNumbers.new.Given as goal

abbrev pub invariant-loop-job : goal.invariant-loop-job
invariant-loop-job l = length l.all.items ≡ l.job
