use Rattle.wcp_queue.proofs.Words.{◌≡◌, ◌≢◌, ℕ, ◌<◌, ◌≤◌, false, List, [], ◌∷◌, ◌++◌, length, get_or, set, drop}
use Rattle.wcp_queue.proofs.Words.{slice_index, refl, sym, ◌∙◌, ap, ⊎_elim, arith, ◌+◌, Bool, true, cond, eqb, Some}
use Rattle.wcp_queue.proofs.Words.{slice_get, cases_eq, true≢false, eq-eqb, ne_eqb, cond-false, append-nil}
use Rattle.wcp_queue.proofs.Words.{drop-append-le, get_or-replicate, get_or-set_same, get_or-set_other, get_or_default}
use Rattle.wcp_queue.proofs.Words.{length-drop, drop-drop, GrowTo, AreInOrder, IsSatisfyingChoice, Floor, has_head}
use Rattle.wcp_queue.proofs.Words.{first_floor, component, RaisesFloor, RisesTo, queue_of, AreLeft, GainCandidate}
use Rattle.wcp_queue.proofs.Words.{candidate, HasHead, WasRaised, LeavesQueue, common_steps, choice_from_each}
use Rattle.wcp_queue.proofs.Choices.{length-grown, get_or-grown, IsEliminatedBelow-start, IsEliminatedBelow-grown}
use Rattle.wcp_queue.proofs.Choices.{IsEliminatedBelow-step}

-- at the start nothing was taken, nothing waits and there is no head
pub no_head_at_first : (p : ℕ) → p < 16 → has_head first_floor p ≡ false
no_head_at_first p within = get_or-replicate 16 p false false within

pub AreLeft-start : (n : ℕ) (rows : ℕ → List (List ℕ)) (queues : List (List (List ℕ))) → n ≤ 16
    → ((p : ℕ) → p < n → rows p ≡ []) → ((p : ℕ) → p < n → queue_of queues p ≡ []) → AreLeft n rows queues first_floor
AreLeft-start n rows queues few none empty = record {
  heads = λ p. 0;
  head = λ p p_within some. absurd (true≢false (sym some ∙ no_head_at_first p (omega arith)));
  none = grind arith;
  under = λ p q p_within q_within apart some. absurd (true≢false (sym some ∙ no_head_at_first q (omega arith)));
  eliminated = IsEliminatedBelow-start n rows (λ p. 0) (λ p p_within. refl);
}

-- what each row gains at its end its queue gains too
pub AreLeft-grown : (n : ℕ) (rows longer : ℕ → List (List ℕ)) (queues others : List (List (List ℕ))) (floor : Floor) →
    ((p : ℕ) → p < n → (more : List (List ℕ)) × (longer p ≡ rows p ++ more)
    × (queue_of others p ≡ queue_of queues p ++ more)) → AreLeft n rows queues floor → AreLeft n longer others floor
AreLeft-grown n rows longer queues others floor gain left = record {
  heads = left.heads;
  head = grind (arith, get_or-grown, grow, length-grown, still);
  none = λ p p_within no.
      let was = left.none p p_within no in
      let now = still p (left.heads p) was.within p_within was.all in
      grind (arith, get_or-grown n rows longer grow, length-grown n rows longer grow);
  under = grind (arith, get_or-grown, grow);
  eliminated = IsEliminatedBelow-grown n rows longer left.heads grow left.eliminated;
}
  where
    grow : GrowTo n rows longer
    grow p p_within = let (more, row, queue) = gain p p_within in (more, row)

    still : (p i : ℕ) → i ≤ length (rows p) → p < n → queue_of queues p ≡ drop i (rows p)
        → queue_of others p ≡ drop i (longer p)
    still p i within p_within was =
        let (more, row, queue) = gain p p_within in
        queue ∙ ap (λ (q : List (List ℕ)). q ++ more) was ∙ sym (drop-append-le i (rows p) more within)
        ∙ ap (drop i) (sym row)

pub AreLeft-rows : (n : ℕ) (rows others : ℕ → List (List ℕ)) (queues : List (List (List ℕ))) (floor : Floor)
    → ((p : ℕ) → p < n → others p ≡ rows p) → AreLeft n rows queues floor → AreLeft n others queues floor
AreLeft-rows n rows others queues floor same = AreLeft-grown n rows others queues queues floor
    (λ p p_within. ([], same p p_within ∙ sym (append-nil (rows p)), sym (append-nil (queue_of queues p))))

-- rows to which a candidate is added have grown
pub GrowTo-gain : (n p : ℕ) (clock : List ℕ) (rows longer : ℕ → List (List ℕ)) → GainCandidate n p clock rows longer
    → GrowTo n rows longer
GrowTo-gain n p clock rows longer gain q q_within = ⊎_elim
    (λ (same : q ≡ p). (clock ∷ [], ap longer same ∙ gain.gained ∙ ap (λ r. rows r ++ clock ∷ []) (sym same)))
    (λ (other : q ≢ p). ([], gain.others q q_within other ∙ sym (append-nil (rows q))))
    (cases_eq q p)

-- a queue in the list that another one took the place of
pub queue_of-set_same : (queues : List (List (List ℕ))) (p : ℕ) (queue : List (List ℕ)) → p < length queues
    → queue_of (set queues p queue) p ≡ queue
queue_of-set_same queues p queue within = get_or-set_same queues p queue [] within

pub queue_of-set_other : (queues : List (List (List ℕ))) (p k : ℕ) (queue : List (List ℕ)) → k ≢ p
    → queue_of (set queues p queue) k ≡ queue_of queues k
queue_of-set_other queues p k queue other = get_or-set_other queues p k queue [] other

-- a candidate that the row of p gains stands at the end of its queue
pub AreLeft-gain : (n : ℕ) (rows longer : ℕ → List (List ℕ)) (queues : List (List (List ℕ))) (floor : Floor) (p : ℕ)
    (clock : List ℕ) (read queue : List (List ℕ)) → p < length queues → queue ≡ get_or queues p read ++ clock ∷ [] →
    GainCandidate n p clock rows longer → AreLeft n rows queues floor → AreLeft n longer (set queues p queue) floor
AreLeft-gain n rows longer queues floor p clock read queue within is gain =
    AreLeft-grown n rows longer queues (set queues p queue) floor (λ k k_within. ⊎_elim
    (grind (arith, get_or_default, queue_of-set_same))
    (λ (other : k ≢ p). (
      [],
      gain.others k k_within other ∙ sym (append-nil (rows k)),
      queue_of-set_other queues p k queue other ∙ sym (append-nil (queue_of queues k)),
    ))
    (cases_eq k p))

pub LeavesQueue-set : (n p : ℕ) (clock : List ℕ) (queues : List (List (List ℕ))) (read queue : List (List ℕ))
    → p < length queues → Some clock ≡ slice_get (get_or queues p read) 0 → queue ≡ drop 1 (get_or queues p read) →
    LeavesQueue n p clock queues (set queues p queue)
LeavesQueue-set n p clock queues read queue within first is =
    grind (arith, get_or_default, queue_of-set_other, queue_of-set_same)

-- one that comes where nothing waits is the first
pub LeavesQueue-alone : (n p : ℕ) (clock : List ℕ) (queues : List (List (List ℕ))) → p < length queues
    → length (queue_of queues p) ≡ 0 → LeavesQueue n p clock (set queues p (queue_of queues p ++ clock ∷ [])) queues
LeavesQueue-alone n p clock queues within none = record {
  next = queue_of-set_same queues p (queue_of queues p ++ clock ∷ []) within ∙ alone (queue_of queues p) none;
  rest = λ k k_within other. sym (queue_of-set_other queues p k (queue_of queues p ++ clock ∷ []) other);
}
  where
    alone : (queue : List (List ℕ)) → length queue ≡ 0 → queue ++ clock ∷ [] ≡ clock ∷ queue
    alone [] none = refl
    alone (one ∷ queue) none = absurd (omega arith)

module _ (n : ℕ) (rows : ℕ → List (List ℕ)) (queues others : List (List (List ℕ))) (floor : Floor)
    (left : AreLeft n rows queues floor) (p : ℕ) (clock : List ℕ) (p_within : p < n)
    (no_head : has_head floor p ≡ false) (taken : LeavesQueue n p clock queues others) where
  -- it stands at its row's place
  all_of_p : drop (left.heads p) (rows p) ≡ clock ∷ queue_of others p
  all_of_p = sym (left.none p p_within no_head).all ∙ taken.next

  next_within : left.heads p < length (rows p)
  next_within = omega (arith, ap length all_of_p, length-drop (left.heads p) (rows p))

  next_is : candidate rows p (left.heads p) ≡ clock
  next_is = grind (arith, common_steps)

  after_next : queue_of others p ≡ drop (left.heads p + 1) (rows p)
  after_next = ap (drop 1) (sym all_of_p) ∙ drop-drop 1 (left.heads p) (rows p)

  -- where the clock was compared, the head of k stands at this place, or else all from this place on waits
  record IsPlaced (new : Floor) (k i : ℕ) : Type 0 where
    up : left.heads k ≤ i
    head : has_head new k ≡ true → HasHead rows (λ q. i) (queue_of others k) (component new k) k
    within : has_head new k ≡ false → i ≤ length (rows k)
    all : has_head new k ≡ false → queue_of others k ≡ drop i (rows k)
    raised : has_head new k ≡ false → 0 < component new k → WasRaised n rows left.heads (component new k) k
    under : (a : ℕ) → a < n → a ≢ k → has_head new k ≡ true → slice_index (candidate rows k i) a ≤ component new a
    eliminated : (longer : ℕ → List (List ℕ)) → GrowTo n rows longer → AreInOrder n longer → (choice : ℕ → ℕ)
        → IsSatisfyingChoice n longer choice → i ≤ choice k

  AreLeft-placed : (new : Floor) → ((k : ℕ) → k < n → (i : ℕ) × IsPlaced new k i) → AreLeft n rows others new
  AreLeft-placed new each =
      let (later, placed) = choice_from_each 0 (IsPlaced new) n each in
      record {
        heads = later;
        head = λ k k_within some. grind (arith, placed k k_within);
        none = λ k k_within no. grind (arith, placed k k_within, placed);
        under = λ a b a_within b_within apart some. (placed b b_within).under a a_within apart some;
        eliminated = record {
          at_or_above = λ longer grow in_order choice satisfying k k_within.
              (placed k k_within).eliminated longer grow in_order choice satisfying;
        };
      }

  -- a candidate that lies under what a head of another process knows is eliminated
  passed : (k known : ℕ) → k < n → left.heads k < length (rows k) → WasRaised n rows left.heads known k
      → slice_index (candidate rows k (left.heads k)) k < known →
      (longer : ℕ → List (List ℕ)) → GrowTo n rows longer → AreInOrder n longer → (choice : ℕ → ℕ)
      → IsSatisfyingChoice n longer choice → left.heads k + 1 ≤ choice k
  passed k known k_within head_within (q, j, below, knows) before longer grow in_order choice satisfying =
      let moved : ℕ → ℕ = λ x. cond (eqb x k) (left.heads x + 1) (left.heads x) in
      let own : moved k ≡ left.heads k + 1 = rw (eq-eqb k k refl) refl in
      omega (
        arith,
        own,
        (IsEliminatedBelow-step n rows left.heads moved k q j left.eliminated k_within knows.process
            (λ same. knows.other (sym same)) head_within knows.within below (omega (arith, before, knows.known))
            (omega (arith, own))
            (λ x x_within other.
            omega (arith, cond-false (eqb x k) (left.heads x + 1) (left.heads x) (ne_eqb x k other)))).at_or_above
            longer grow in_order choice satisfying k k_within,
      )

  -- one under the floor precedes a candidate that is or was a head, and is eliminated
  pub AreLeft-under : (tests : ℕ) → slice_index clock p < component floor p
      → AreLeft n rows others (record floor { tests = tests })
  AreLeft-under tests less = AreLeft-placed (record floor { tests = tests }) (λ k k_within. ⊎_elim
      (λ (same : k ≡ p). rw same (left.heads p + 1, gone))
      (λ (other : k ≢ p). (left.heads k, stays k k_within other (taken.rest k k_within other)))
      (cases_eq k p))
    where
      by : WasRaised n rows left.heads (component floor p) p
      by = (left.none p p_within no_head).raised (omega (arith, less))

      gone : IsPlaced (record floor { tests = tests }) p (left.heads p + 1)
      gone = grind (arith, next_within, after_next, next_is, passed p (component floor p) p_within next_within by)

      stays : (k : ℕ) → k < n → k ≢ p → queue_of others k ≡ queue_of queues k
          → IsPlaced (record floor { tests = tests }) k (left.heads k)
      stays k k_within other same = grind arith

  -- else it is the head, and each head that its clock passes precedes it and is eliminated
  pub AreLeft-raised : (new : Floor) → RaisesFloor n p clock floor new → AreLeft n rows others new
  AreLeft-raised new raises = AreLeft-placed new (λ k k_within. ⊎_elim
      (λ (same : k ≡ p). rw same (left.heads p, head))
      (λ (other : k ≢ p). by_heads k k_within other (taken.rest k k_within other) (raises.rises k k_within other)
      (has_head floor k) (has_head new k) refl refl)
      (cases_eq k p))
    where
      higher : (a : ℕ) → a < n → 1 < n → component floor a ≤ component new a
      higher a a_within several = grind (arith, cases_eq)

      head : IsPlaced new p (left.heads p)
      head = grind (arith, next_within, after_next, next_is)

      by_p : (k : ℕ) → k ≢ p → component new k ≡ slice_index clock k → WasRaised n rows left.heads (component new k) k
      by_p k other knows = (
        p,
        left.heads p,
        omega arith,
        record {
          other = λ same. other (sym same);
          process = p_within;
          within = next_within;
          known = grind (arith, next_is);
        },
      )

      by_heads : (k : ℕ) → k < n → k ≢ p → queue_of others k ≡ queue_of queues k → RisesTo k (slice_index clock k) floor
          new → (was is : Bool) → has_head floor k ≡ was → has_head new k ≡ is → (i : ℕ) × IsPlaced new k i
      by_heads k k_within other same rises true true before after = let h = left.head k k_within before in
          (left.heads k, grind arith)
      by_heads k k_within other same rises true false before after = let h = left.head k k_within before in
          (left.heads k + 1, grind (arith, by_p, passed k (component new k) k_within h.within))
      by_heads k k_within other same rises false is before after = let h = left.none k k_within before in
          (left.heads k, grind (arith, by_p))
