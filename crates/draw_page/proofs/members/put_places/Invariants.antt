use Rattle.std.proofs.Common.{take}
use Rattle.std.specs.List.{flat_map}
use Rattle.draw_page.specs.Adding.{Adds}
use Rattle.draw_page.specs.Model.{place_tokens}
use Rattle.draw_page.proofs.members.put_places.Given as goal

abbrev pub invariant-loop-place : goal.invariant-loop-place
invariant-loop-place l = Adds l.initial.out l.out (flat_map place_tokens (take l.place-index l.places))
