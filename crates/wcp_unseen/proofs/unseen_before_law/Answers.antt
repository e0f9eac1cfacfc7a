use Rattle.std.proofs.Common.{refl}
use Rattle.wcp_unseen.specs.Unseen.{state_at}
use Rattle.wcp_unseen.proofs.Seeing.{before_seen}
use Rattle.wcp_unseen.proofs.unseen_before_law.Goals as goal

pub returns : goal.returns
returns c = λ seen whole is p q i j i_within j_within before.
    before_seen seen whole is (state_at seen p i) before i j i_within j_within refl refl
