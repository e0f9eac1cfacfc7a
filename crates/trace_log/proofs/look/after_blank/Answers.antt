use Rattle.trace_log.proofs.Words.{[], ◌∷◌, refl}
use Rattle.std.proofs.Common.{inl}
use Rattle.trace_log.proofs.look.after_blank.Goals as goal

pub returns-in-Some : goal.returns-in-Some
returns-in-Some c = (32 ∷ [], (inl refl, tt), c.in-Some.ensures)

pub returns-in-None : goal.returns-in-None
returns-in-None c = ([], tt, refl)
