-- Elements that are taken one by one from those that are left.
use Rattle.std.proofs.Common.{◌≡◌, List, [], ◌∷◌, ◌++◌, length, map, append-nil, append_assoc}
use Rattle.std.proofs.lemmas.List.{map-append, nil_from_length}

-- one more was seated of those that were left
pub seated : {S X : Type 0} (of : S → X) (seats : List S) (seat : S) {new : List S} {left rest all : List X}
    → new ≡ seats ++ seat ∷ [] → left ≡ of seat ∷ rest → map of seats ++ left ≡ all → map of new ++ rest ≡ all
seated of seats seat pushed next whole = rw (pushed, map-append, append_assoc) (rw next at whole)

-- none is left
pub none_left : {X : Type 0} (taken left : List X) {all : List X} → taken ++ left ≡ all → length left ≡ 0 → taken ≡ all
none_left taken left whole none = rw (nil_from_length left none, append-nil) at whole
