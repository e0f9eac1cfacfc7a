use Rattle.trace_pairs.proofs.Words.{◌≡◌, List, length, Logged, Re, Rule, Text}
use Rattle.trace_log.specs.Turns.{seen_logged}
use Rattle.trace_pairs.specs.Rows.{AreRows, ComesAt, StandAll, StandPartly}
use Rattle.trace_pairs.proofs.rows.take_each.Given as goal

abbrev pub invariant-loop-other : goal.invariant-loop-other
invariant-loop-other l = record {
  rows : AreRows l.rows;
  taken : (rule : Rule Re) (before : List Logged) (hosts : List Text) → StandAll rule before hosts l.fn.rows
      → ComesAt rule before (seen_logged l.logged) l.holds hosts l.place
      → StandPartly rule before (seen_logged l.logged) hosts l.place l.other l.rows;
}
