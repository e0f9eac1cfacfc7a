use Rattle.trace_asking.proofs.Words.{refl}
use Rattle.trace_pairs.specs.Searching.{names_of, rule_in}
use Rattle.trace_asking.proofs.seeker.PairSeeker.take.Goals as goal

pub returns-in_default : goal.returns-in_default
returns-in_default c condition before seeking follows = record {
  by = seeking.by;
  taken = rw c.in_default.is at (c.in_ok-moment.ensures (names_of condition) (rule_in condition) before seeking.taken
      follows);
}

pub returns : goal.returns
returns c condition before seeking follows = record {
  told = c.in-Some.moment;
  kept = refl;
  known = rw c.in-Some.is at (c.in_ok-moment.ensures (names_of condition) (rule_in condition) before seeking.taken
      follows);
}
