use Rattle.std.proofs.Common.{◌∙◌, sym, arith}
use Rattle.trace_cli.proofs.question_file.place_named.Goals as goal

pub returns-then-eq : goal.returns-then-eq
returns-then-eq c = record {
  within = omega arith;
  question = c.index-questions-place.result;
  is = c.index-questions-place.is;
  named = rw c.as_str.ensures.value at (sym c.eq.ensures ∙ c.if-eq.true);
}
