use Rattle.std.proofs.Common.{◌++◌, codes, string_bytes}
use Rattle.std.proofs.lemmas.Result.{IfOk-weaker}
use Rattle.draw_still.proofs.picture.still.Goals as goal

pub returns : goal.returns
returns c = IfOk-weaker c.format.result _ _ (λ text is. record {
  before = string_bytes c.in_ok-head.head;
  behind = string_bytes c.in_ok-members.members ++ (codes "</text>\n" ++ (string_bytes c.in_ok-shapes.shapes
      ++ (string_bytes c.in_ok-notes.notes ++ codes "</svg>\n")));
  told = rw (← c.answer_name-answer.ensures) is;
}) c.format.ensures.ok
