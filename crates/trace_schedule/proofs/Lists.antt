-- Lists of what values say.
use Rattle.std.proofs.Common.{◌≡◌, Bool, List, [], ◌∷◌, map, refl, ap}
use Rattle.std.specs.Prelude.{◌||◌}
use Rattle.std.specs.List.{list_any}

module _ {X Y : Type 0} (says : X → Y) where
  -- What some value says passes a test.
  pub any-said : (test : Y → Bool) (values : List X)
      → list_any (λ one. test (says one)) values ≡ list_any test (map says values)
  any-said test [] = refl
  any-said test (one ∷ others) = ap (λ (b : Bool). test (says one) || b) (any-said test others)

  pub map-said : {Z : Type 0} (f : Y → Z) (values : List X)
      → map (λ one. f (says one)) values ≡ map f (map says values)
  map-said f [] = refl
  map-said f (one ∷ others) = ap (λ (all : List _). f (says one) ∷ all) (map-said f others)
