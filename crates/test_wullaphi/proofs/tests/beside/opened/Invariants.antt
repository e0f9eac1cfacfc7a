use Rattle.std.proofs.Common.{Some}
use Rattle.test_wullaphi.proofs.tests.beside.opened.Given as goal

abbrev pub ghosts-is_told_beside : goal.ghosts-is_told_beside
ghosts-is_told_beside g a = record { opened = Some a.watch }
