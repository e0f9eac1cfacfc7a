use Rattle.draw_layout.proofs.Past.{member_before}
use Rattle.draw_layout.proofs.cut_halves.member_law.Goals as goal

pub returns : goal.returns
returns c = member_before
