use Rattle.std.proofs.Common.{Some}
use Rattle.test_wullaphi.proofs.tests.opened.opened.Given as goal

abbrev pub ghosts-watched : goal.ghosts-watched
ghosts-watched g a = record { opened = Some a.watch }
