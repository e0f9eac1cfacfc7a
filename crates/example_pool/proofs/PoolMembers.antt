-- The members of a pool, by the numbers of their processes.
use Rattle.example_pool.proofs.Words.{◌≡◌, ℕ, zero, suc, ◌+◌, Some, List, length, slice_get, refl, sym, ap, subst, ◌∙◌}
use Rattle.example_pool.proofs.Words.{arith, Call, All-at, Pace, PoolMember, IsLogOfPart, IsPool, IsReplica, jobs_of}
use Rattle.example_pool.proofs.Words.{IsLogAt, jobs_at}
use Rattle.example_pool.specs.declared.dispatcher.Dispatcher.{Dispatcher}
use Rattle.example_pool.specs.declared.member.PoolMember.TheVariants as member

module _ (replicas rounds : ℕ) (pace : Pace) where
  -- the part of a member is that of its process
  pub record IsMemberAt (p : ℕ) (one : PoolMember) : Type 0 where
    pub jobs : jobs_of one ≡ jobs_at replicas rounds p
    pub is_log : (log : List Call) → IsLogOfPart (replicas + 1) one log → IsLogAt replicas rounds pace p log

  the_dispatcher : (one : Dispatcher) → one.pace ≡ pace → one.rounds ≡ rounds → length one.partners ≡ replicas
      → IsMemberAt 0 (member.Dispatcher one)
  the_dispatcher one has_pace has_rounds partners = record {
    jobs = rw (has_rounds, partners) refl;
    is_log = λ log is. rw (has_pace, has_rounds, partners) at is;
  }

  a_replica : (k : ℕ) (one : PoolMember) → IsReplica rounds one → IsMemberAt (suc k) one
  a_replica k (member.Dispatcher dispatcher) is = absurd is
  a_replica k (member.Replica replica) is = record { jobs = is; is_log = λ log of. rw is at of }

  pub member_at : (members : List PoolMember) → IsPool pace rounds members → length members ≡ replicas + 1
      → (p : ℕ) (one : PoolMember) → slice_get members p ≡ Some one → IsMemberAt p one
  member_at members pool count zero one at =
      let first : Some one ≡ Some (member.Dispatcher pool.dispatcher) = sym at
      ∙ ap (λ (ms : List PoolMember). slice_get ms 0) pool.all in
      let is : member.Dispatcher pool.dispatcher ≡ one = cc in
      let partners : length pool.dispatcher.partners ≡ replicas =
      omega (arith, ap (λ (ms : List PoolMember). length ms) pool.all, pool.partners, count) in
      subst (IsMemberAt 0) is (the_dispatcher pool.dispatcher pool.has_pace pool.has_rounds partners)
  member_at members pool count (suc k) one at =
      let rest : slice_get pool.replicas k ≡ Some one =
      ap (λ (ms : List PoolMember). slice_get ms (suc k)) (sym pool.all) ∙ at in
      a_replica k one (All-at (IsReplica rounds) pool.replicas k one pool.rest rest)
