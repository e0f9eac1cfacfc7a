use Rattle.std.proofs.Common.{◌≡◌, Option, Some, None, IsSome, refl, arith}

-- an option that is some has a value
pub value_there : {X : Type 0} (o : Option X) → IsSome o → (x : X) × (o ≡ Some x)
value_there (Some x) some = (x, refl)
value_there None some = grind arith
