use Rattle.std.proofs.Common.{◌≡◌, ◌++◌, codes, string_bytes, take}
use Rattle.std.specs.List.{flat_map}
use Rattle.draw_picture.specs.Picture.{interval_text}
use Rattle.draw_picture.proofs.told.intervals.Given as goal

abbrev pub invariant-loop-p : goal.invariant-loop-p
invariant-loop-p l = string_bytes l.text ≡ codes "found" ++ flat_map interval_text (take l.p l.cut)
