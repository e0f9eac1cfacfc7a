use Rattle.std.proofs.Common.{◌++◌, codes, string_bytes}
use Rattle.std.proofs.lemmas.Result.{IfOk-weaker}
use Rattle.draw_picture.proofs.picture.draw.Goals as goal

pub returns : goal.returns
returns c = IfOk-weaker c.format.result _ _ (λ text is. record {
  is_layout = c.requires.layout;
  before = string_bytes c.in_ok-head.head;
  behind = string_bytes c.in_ok-shapes.shapes ++ (string_bytes c.in_ok-notes.notes ++ codes "</svg>\n");
  told = rw (← c.in_ok-found.ensures) is;
}) c.format.ensures.ok
