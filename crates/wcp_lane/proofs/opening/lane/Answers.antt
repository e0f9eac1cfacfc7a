use Rattle.wcp_lane.proofs.Words.{rules, ◌≡◌, ℕ, zero, suc, ◌<◌, [], ◌∷◌, slice_get, Some, refl, arith, AreMemberSets}
use Rattle.wcp_lane.proofs.Words.{IsCapacity, HasLaneFault}
use Rattle.wcp_lane.specs.declared.fault.LaneFault.{LaneFault}
use Rattle.wcp_lane.specs.declared.fault.LaneFault.TheVariants.{Cap, MemberSets, NoMemory}
use Rattle.wcp_lane.proofs.opening.lane.Goals as goal

pub returns-in-Err-clause-fault : goal.returns-in-Err-clause-fault
returns-in-Err-clause-fault g c = record { place = 2; listed = refl; holds = tt; none_before = neither }
  where
    neither : (earlier : ℕ) (other : LaneFault) → earlier < 2 → slice_get
        (Cap ∷ MemberSets ∷ NoMemory ∷ []) earlier ≡ Some other → ¬ HasLaneFault c.args.cap c.args.member_sets.now other
    neither earlier Cap below at = let fits : IsCapacity c.args.cap = search rules in λ no. no fits
    neither earlier MemberSets below at = let are : AreMemberSets c.args.member_sets.now = search rules in λ no. no are
    neither zero NoMemory below at = λ _. cc at
    neither (suc zero) NoMemory below at = λ _. cc at
    neither (suc (suc k)) NoMemory below at = absurd (omega arith)
