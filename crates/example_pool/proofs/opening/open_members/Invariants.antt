use Rattle.example_pool.proofs.Words.{◌≡◌, length, All, IsReplica}
use Rattle.example_pool.proofs.opening.open_members.Given as goal

abbrev pub invariant-loop-place : goal.invariant-loop-place
invariant-loop-place l =
    record {
      partners : length l.partners.items ≡ l.place;
      members : length l.members.items ≡ l.place;
      replicas : All (IsReplica l.rounds) l.members.items;
    }
