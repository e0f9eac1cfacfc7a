-- What a watch of the members of a pool tells.
use Rattle.example_pool.proofs.Words.{◌≡◌, ℕ, zero, suc, ◌+◌, ◌≤◌, Some, Result, Ok, List, [], ◌∷◌, ◌++◌, length, map}
use Rattle.example_pool.proofs.Words.{slice_get, refl, sym, ap, subst, ◌∙◌, arith, IsSomeAnd, length-map, Call}
use Rattle.example_pool.proofs.Words.{ProbeSetup, setup, snapshots_in, mapped_at, Pace, PoolMember, DidPart}
use Rattle.example_pool.proofs.Words.{IsLogOfPart}
use Rattle.example_pool.proofs.Words.{IsPool, LeavesPart, IsLogAt, IsLogTaken, IsPoolReport, IsToldAt, jobs_at}
use Rattle.example_pool.proofs.Words.{snapshots_at}
use Rattle.wcp_clock.specs.declared.note.Item.{Item}
use Rattle.wcp_model.specs.Report.{notes_taken}
use Rattle.wcp_model.specs.declared.outcome.Outcome.{Outcome}
use Rattle.wcp_model.specs.declared.outcome.Tally.{Tally}
use Rattle.wcp_model.proofs.SamePlace.{element_within}
use Rattle.wcp_model.specs.Watched.{AreAllWatched}
use Rattle.wcp_model.specs.declared.flag.Flag.TheVariants as reset_at
use Rattle.wcp_model.specs.declared.plan.Plan.{Plan}
use Rattle.std.proofs.lemmas.Bool.{lt-ltb}
use Rattle.wcp_model.specs.ProbeLog.{Closed, state_of_log}
use Rattle.example_pool.specs.Pools.{pool_setup}
use Rattle.wullaphi.specs.WatchOutcomes.{IsWatchOutcome}
use Rattle.wullaphi.specs.declared.watch_outcome.WatchOutcome.{WatchOutcome}
use Rattle.example_pool.specs.declared.member.Share.{Share}
use Rattle.example_pool.specs.declared.member.Stop.{Stop}
use Rattle.example_pool.specs.declared.pool.PoolReport.{PoolReport}
use Rattle.example_pool.proofs.PoolMembers.{member_at}
use Rattle.example_pool.proofs.Snapshots.{replica_snapshots}

-- how many snapshots a process emitted, by its log
counted : (replicas rounds : ℕ) (pace : Pace) (items : List Item) (p : ℕ) (log : List Call)
    → IsLogAt replicas rounds pace p log
    → IsLogTaken (replicas + 1) items p log → snapshots_in (notes_taken p items) ≡ snapshots_at rounds items p
counted replicas rounds pace items zero log is taken = refl
counted replicas rounds pace items (suc k) log is taken =
    ap snapshots_in taken ∙ replica_snapshots (replicas + 1) (suc k) (replicas + 1) rounds log is

module _ (replicas : ℕ) {rounds : ℕ} {pace : Pace} {members : List PoolMember}
    {watched : WatchOutcome (Result Share Stop)}
    {number : ℕ} {plan : Plan} (n_is : plan.n ≡ replicas + 1) (all : AreAllWatched (replicas + 1) plan.watched)
    (flag_is : plan.flag ≡ reset_at.Event)
    (pool : IsPool pace rounds members) (is : IsWatchOutcome LeavesPart number plan (plan.watched ∷ []) members watched)
    (told : PoolReport) (shares : watched.answers.items ≡ map Ok told.shares.items)
    (outcome : told.outcome ≡ watched.outcome) (totals : told.totals ≡ watched.totals) where
  shares_count : length told.shares.items ≡ replicas + 1
  shares_count = sym (length-map told.shares.items Ok) ∙ ap length (sym shares) ∙ is.answers ∙ n_is

  made_is : (p : ℕ) → p ≤ replicas → setup plan.n plan.watched plan.flag p ≡ pool_setup (replicas + 1) p
  made_is p within =
      let member = all p ∙ lt-ltb p (replicas + 1) (omega (arith, within)) in
      λ i. record { processes = n_is i; process = p; watched = member i; flag = flag_is i }

  told_at : (p : ℕ) → p ≤ replicas → IsToldAt replicas rounds pace told is.taken p
  told_at p within =
      let (one, one_at) = element_within members p (omega (arith, within, is.processes_are, n_is)) in
      let (share, share_at) = element_within told.shares.items p (omega (arith, within, shares_count)) in
      let answer_at : slice_get watched.answers.items p ≡ Some (Ok share) =
      ap (λ (answers : List (Result Share Stop)). slice_get answers p) shares
      ∙ mapped_at Ok told.shares.items p share share_at in
      let run = is.ran p one (Ok share) one_at answer_at in
      let part : DidPart one run.probe share = run.leaves in
      let member = member_at replicas rounds pace members pool (is.processes_are ∙ n_is) p one one_at in
      let components : length run.probe.core.clock ≡ replicas + 1 =
      ap (λ (made : ProbeSetup). made.processes) run.of_process ∙ n_is in
      let is_log = member.is_log part.log (subst (λ n. IsLogOfPart n one part.log) components part.is_log) in
      let taken : IsLogTaken (replicas + 1) is.taken p part.log =
      subst (λ (made : ProbeSetup). notes_taken p is.taken ≡ (state_of_log made (part.log ++ Closed ∷ [])).notes)
      (made_is p within) (run.emitted part.log part.stands) in
      let tally : ℕ → Tally = λ k. record { emitted = k; taken = k } in
      let number = counted replicas rounds pace is.taken p part.log is_log taken in
      record {
        log = part.log;
        is_log = is_log;
        taken = taken;
        jobs = subst (λ o. IsSomeAnd o (λ share. share.jobs ≡ jobs_at replicas rounds p)) (sym share_at)
            (part.jobs ∙ member.jobs);
        tally = ap (λ (o : Outcome). slice_get o.tallies p) outcome ∙ is.tallies p (omega (arith, within, n_is))
            ∙ ap (λ k. Some (tally k)) number;
      }

  pub is_pool_report : IsPoolReport replicas rounds pace told
  is_pool_report = record {
    items = is.taken;
    each = told_at;
    shares = shares_count;
    tallies = ap (λ (o : Outcome). length o.tallies) outcome ∙ is.all_tallies ∙ n_is;
    drained = rw n_is at is.drained;
    watched = plan.watched;
    all_watched = all;
    exact = rw outcome (rw n_is at (is.exact 0 plan.watched watched.outcome.report refl is.first));
    emitted = rw (outcome, totals) is.emitted_in_all;
    taken = rw (outcome, totals) is.taken_in_all;
  }
