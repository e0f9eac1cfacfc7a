use Rattle.std.specs.Prelude.{ℕ, List, [], ◌∷◌, max}

-- The componentwise maximum of two lists of one length: what two clocks together know (Fidge 1988, Mattern 1989).
abbrev pub merged : List ℕ → List ℕ → List ℕ
merged (x ∷ xs) (y ∷ ys) = max x y ∷ merged xs ys
merged [] ys = []
merged (x ∷ xs) [] = []
