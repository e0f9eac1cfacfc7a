-- A checker isn't asked too many questions.
use Rattle.std.proofs.Common.{◌≡◌, ℕ, zero, suc, ◌*◌, ◌≤◌, List, length, arith}
use Rattle.std.proofs.lemmas.List.{length-map}
use Rattle.wcp_clock.specs.Limits.{most_processes}
use Rattle.wcp_queue.specs.Checker.{CheckerState}
use Rattle.wcp_queue.specs.Panel.{watched_by}
use Rattle.wcp_queue.specs.Pairs.{pairs_before, ArePairs}
use Rattle.wcp_c.specs.Masks.{AreSetsOf, most_questions}

-- a panel has as many questions as sets of watched processes
pub as_many_as_watched : (panel : List CheckerState) → length (watched_by panel) ≡ length panel
as_many_as_watched panel = length-map panel (λ (checker : CheckerState). checker.watched)

pub few_sets : (panel : List CheckerState) (masks : List ℕ) → AreSetsOf masks (watched_by panel)
    → length masks ≤ most_questions → length panel ≤ most_questions
few_sets panel masks are few = omega (arith, as_many_as_watched panel, are.as_many, few)

-- so many pairs have a lesser number below a
few_pairs_before : (n a : ℕ) → n ≤ 16 → pairs_before n a ≤ a * 16
few_pairs_before n zero few = omega arith
few_pairs_before n (suc a) few = omega (arith, few, few_pairs_before n a few)

pub few_pairs : (panel : List CheckerState) (n : ℕ) → ArePairs n (watched_by panel) → n ≤ most_processes
    → length panel ≤ most_questions
few_pairs panel n are few = omega (arith, as_many_as_watched panel, are.as_many, few_pairs_before n n few, few)
