-- What a program has at its edge.
use Rattle.wcp_io.specs.Input.{Known}

-- The input and the output of a program, each before and after.
pub record Edge : Type 0 where
  pub input : Known
  pub input_after : Known
  pub output : Known
  pub output_after : Known

-- The edge with these four.
abbrev pub edge_of : Known → Known → Known → Known → Edge
edge_of input input_after output output_after = record {
  input = input;
  input_after = input_after;
  output = output;
  output_after = output_after;
}
