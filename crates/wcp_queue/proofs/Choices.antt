use Rattle.wcp_queue.proofs.Words.{◌≡◌, ◌≢◌, ◌↔◌, ℕ, ◌+◌, ◌<◌, ◌≤◌, List, [], ◌++◌, length, get_or, ◌∙◌, ap, sym, arith}
use Rattle.wcp_queue.proofs.Words.{append-nil, append_assoc, length-append, get_or_append_left, PrecedesAt, GrowTo}
use Rattle.wcp_queue.proofs.Words.{IsSatisfyingChoice, AreInOrder, IsEliminatedBelow}

-- rows grow to themselves, and in two steps as in one
pub GrowTo-same : (n : ℕ) (rows : ℕ → List (List ℕ)) → GrowTo n rows rows
GrowTo-same n rows p p_within = ([], sym (append-nil (rows p)))

pub GrowTo-trans : (n : ℕ) (rows longer longest : ℕ → List (List ℕ)) → GrowTo n rows longer → GrowTo n longer longest
    → GrowTo n rows longest
GrowTo-trans n rows longer longest first second p p_within =
    let (more, one) = first p p_within in
    let (rest, two) = second p p_within in
    (more ++ rest, two ∙ ap (λ row. row ++ rest) one ∙ append_assoc (rows p) more rest)

-- what stands in a row stands at the same place of the longer row
pub length-grown : (n : ℕ) (rows longer : ℕ → List (List ℕ)) → GrowTo n rows longer → (p : ℕ) → p < n
    → length (rows p) ≤ length (longer p)
length-grown n rows longer grow p p_within =
    let (more, is) = grow p p_within in
    omega (arith, ap length is, length-append (rows p) more)

pub get_or-grown : (n : ℕ) (rows longer : ℕ → List (List ℕ)) → GrowTo n rows longer → (p i : ℕ) → p < n
    → i < length (rows p) → get_or (longer p) i [] ≡ get_or (rows p) i []
get_or-grown n rows longer grow p i p_within i_within =
    let (more, is) = grow p p_within in
    ap (λ row. get_or row i []) is ∙ get_or_append_left (rows p) more [] i i_within

module _ (n : ℕ) where
  -- precedence between two candidates is fixed: it stays as the rows grow, and none is new
  PrecedesAt-grown : (rows longer : ℕ → List (List ℕ)) → GrowTo n rows longer → (p i q j : ℕ) → p < n → q < n
      → i < length (rows p) → j < length (rows q) → PrecedesAt rows p i q j ↔ PrecedesAt longer p i q j
  PrecedesAt-grown rows longer grow p i q j p_within q_within i_within j_within = grind (arith, get_or-grown)

  -- a satisfying choice stays one as the rows grow
  pub IsSatisfyingChoice-grown : (rows longer : ℕ → List (List ℕ)) (choice : ℕ → ℕ) → GrowTo n rows longer
      → IsSatisfyingChoice n rows choice → IsSatisfyingChoice n longer choice
  IsSatisfyingChoice-grown rows longer choice grow satisfying = record {
    within = λ p p_within. omega (arith, satisfying.within p p_within, length-grown n rows longer grow p p_within);
    concurrent = λ p q p_within q_within apart before. satisfying.concurrent p q p_within q_within apart
        ((PrecedesAt-grown rows longer grow p (choice p) q (choice q) p_within q_within (satisfying.within p p_within)
        (satisfying.within q q_within)).1 before);
  }

  -- at the start nothing is eliminated: every head is the first of its row
  pub IsEliminatedBelow-start : (rows : ℕ → List (List ℕ)) (heads : ℕ → ℕ) → ((p : ℕ) → p < n → heads p ≡ 0)
      → IsEliminatedBelow n rows heads
  IsEliminatedBelow-start rows heads first =
      record { at_or_above = λ longer grow in_order choice satisfying p p_within. omega (arith, first p p_within) }

  -- what is eliminated stays eliminated as the rows grow
  pub IsEliminatedBelow-grown : (rows longer : ℕ → List (List ℕ)) (heads : ℕ → ℕ) → GrowTo n rows longer
      → IsEliminatedBelow n rows heads → IsEliminatedBelow n longer heads
  IsEliminatedBelow-grown rows longer heads grow eliminated = record {
    at_or_above =
        λ longest again. eliminated.at_or_above longest (GrowTo-trans n rows longer longest grow again);
  }

  -- a head that precedes a candidate at or below the head of another row is eliminated too: its row's head moves one on
  pub IsEliminatedBelow-step : (rows : ℕ → List (List ℕ)) (heads moved : ℕ → ℕ) (p q j : ℕ)
      → IsEliminatedBelow n rows heads → p < n → q < n → p ≢ q → heads p < length (rows p) → j < length (rows q)
      → j ≤ heads q → PrecedesAt rows p (heads p) q j → moved p ≤ heads p + 1
      → ((k : ℕ) → k < n → k ≢ p → moved k ≤ heads k) → IsEliminatedBelow n rows moved
  IsEliminatedBelow-step rows heads moved p q j eliminated p_within q_within apart head_within j_within j_below before
      one_on others = grind (arith, above)
    where
      above : (longer : ℕ → List (List ℕ)) → GrowTo n rows longer → AreInOrder n longer → (choice : ℕ → ℕ)
          → IsSatisfyingChoice n longer choice → moved p ≤ choice p
      above longer grow in_order choice satisfying =
          let at_p : heads p ≤ choice p = eliminated.at_or_above longer grow in_order choice satisfying p p_within in
          let at_q : heads q ≤ choice q = eliminated.at_or_above longer grow in_order choice satisfying q q_within in
          let before_choice : PrecedesAt longer p (heads p) q (choice q) = grind (arith, PrecedesAt-grown) in
          grind arith
