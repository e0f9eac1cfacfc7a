-- Calls that follow one another.
use Rattle.example_pool.proofs.Words.{◌≡◌, None, List, [], ◌∷◌, ◌++◌, length, subst, append_assoc, arith, Call, Seal}
use Rattle.example_pool.proofs.Words.{LiveSide, LiveFor, LiveAccepts}
use Rattle.wcp_probe.specs.Core.{Core}
use Rattle.wcp_probe.specs.Refusals.{receive_refusal}

-- a stamp that isn't refused has a component for each process
pub whole_stamp : (core : Core) (seal : Seal) → receive_refusal core seal ≡ None → length seal.clock ≡ length core.clock
whole_stamp core seal none = grind arith

-- a call, and then another
pub two_calls : (start one two : LiveSide) (first second : Call) → LiveAccepts start first one
    → LiveAccepts one second two
    → (log : List Call) → LiveFor start log → LiveFor two (log ++ first ∷ second ∷ [])
two_calls start one two first second is then log stands =
    subst (LiveFor two) (append_assoc log (first ∷ []) (second ∷ [])) (then _ (is log stands))

-- a call after two others
pub third_call : (start two three : LiveSide) (first second third : Call)
    → ((log : List Call) → LiveFor start log → LiveFor two (log ++ first ∷ second ∷ []))
    → LiveAccepts two third three → (log : List Call) → LiveFor start log
    → LiveFor three (log ++ first ∷ second ∷ third ∷ [])
third_call start two three first second third is then log stands =
    subst (LiveFor three) (append_assoc log (first ∷ second ∷ []) (third ∷ [])) (then _ (is log stands))
