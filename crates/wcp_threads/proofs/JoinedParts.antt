-- Parts that are started one by one, and their ends.
use Rattle.wcp_threads.proofs.Words.{◌≡◌, List, [], ◌∷◌, ◌++◌, length, map, refl, append_assoc, arith, AreEndsOf}
use Rattle.std.proofs.lemmas.Bool.{cases_lt}
use Rattle.std.proofs.lemmas.Grind.{common_steps}
use Rattle.std.proofs.lemmas.List.{length-append, map-append}
use Rattle.std.proofs.lemmas.Option.{gets}

module _ {P E : Type 0} (IsEnd : P → E → Type 0) where
  pub AreEndsOf-none : AreEndsOf IsEnd [] []
  AreEndsOf-none = record { count = refl; each = λ i part end at other. absurd (cc at) }

  pub AreEndsOf-push : (parts : List P) (ends : List E) (part : P) (end : E) → AreEndsOf IsEnd parts ends
      → IsEnd part end → AreEndsOf IsEnd (parts ++ part ∷ []) (ends ++ end ∷ [])
  AreEndsOf-push parts ends part end are is = record {
    count = omega (arith, are.count, length-append parts (part ∷ []), length-append ends (end ∷ []));
    each = λ i p e at other.
        grind (arith, common_steps, gets, at, other, is, are.count, are.each i p e, cases_lt i (length parts));
  }

-- one more was started of those that were left
pub started_more : {H P : Type 0} (part_of : H → P) (started : List H) (thread : H) (part : P) (rest all : List P)
    → map part_of started ++ part ∷ rest ≡ all → part_of thread ≡ part
    → map part_of (started ++ thread ∷ []) ++ rest ≡ all
started_more part_of started thread part rest all whole is =
    rw (map-append, append_assoc, is) whole

-- one more was joined of those that were left
pub joined_more : {H P E : Type 0} (part_of : H → P) (IsEnd : P → E → Type 0) (joined : List H) (thread : H)
    (ends : List E) (end : E) → AreEndsOf IsEnd (map part_of joined) ends → IsEnd (part_of thread) end
    → AreEndsOf IsEnd (map part_of (joined ++ thread ∷ [])) (ends ++ end ∷ [])
joined_more part_of IsEnd joined thread ends end are is =
    rw map-append (AreEndsOf-push IsEnd (map part_of joined) ends (part_of thread) end are is)
