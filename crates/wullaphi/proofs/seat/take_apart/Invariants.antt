use Rattle.std.proofs.Common.{◌≡◌, ◌++◌, All, Some, map, vec_items}
use Rattle.std.specs.Prelude.{IsSome}
use Rattle.std.specs.Vec.Iter.{into_iter_items}
use Rattle.wullaphi.proofs.seat.take_apart.Given as goal

abbrev pub invariant-loop-end : goal.invariant-loop-end
invariant-loop-end g l =
    record {
      whole : l.yielded ++ into_iter_items l.end-iterator ≡ vec_items l.fn.ends;
      rest : All (λ end. IsSome end.probe) (into_iter_items l.end-iterator);
      probes : map (λ end. end.probe) l.yielded ≡ map Some l.probes.items;
      answers : map (λ end. end.answer) l.yielded ≡ l.answers.items;
    }
