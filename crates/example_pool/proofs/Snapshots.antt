-- The snapshots that a replica emits.
use Rattle.example_pool.proofs.Words.{◌≡◌, ℕ, ◌+◌, List, [], ◌∷◌, ◌++◌, if◌then◌else◌, refl, ap, ◌∙◌, arith}
use Rattle.example_pool.proofs.Words.{fold-append, sum_by-append, Call, Closed, after_call, state_of_log, snapshots_in}
use Rattle.example_pool.proofs.Words.{IsReplicaLog, NoJob, OneMore, calls_for}
use Rattle.example_pool.specs.Pools.{pool_setup}
use Rattle.wcp_clock.specs.declared.note.Note.TheVariants.{Close}
use Rattle.wcp_clock.specs.Notes.{is_snapshot}

-- a replica's log has a snapshot for each of its jobs
jobs_emitted : (of p n jobs : ℕ) (log : List Call) → IsReplicaLog n jobs log
    → snapshots_in (state_of_log (pool_setup of p) log).notes ≡ jobs
jobs_emitted of p n _ _ NoJob = refl
jobs_emitted of p n _ _ (OneMore {jobs} {log} stamp whole is) =
    let made = pool_setup of p in
    let more = fold-append (after_call made) (state_of_log made []) log (calls_for stamp) in
    ap (λ s. snapshots_in s.notes) more ∙ sum_by-append _ (state_of_log made log).notes _
    ∙ ap (λ k. k + 1) (jobs_emitted of p n jobs log is)

-- and so it has as it closes
pub replica_snapshots : (of p n jobs : ℕ) (log : List Call) → IsReplicaLog n jobs log
    → snapshots_in (state_of_log (pool_setup of p) (log ++ Closed ∷ [])).notes ≡ jobs
replica_snapshots of p n jobs log is =
    let made = pool_setup of p in
    let last = fold-append (after_call made) (state_of_log made []) log (Closed ∷ []) in
    let before = sum_by-append (λ note. if is_snapshot note then 1 else 0) (state_of_log made log).notes
    (Close (state_of_log made log).snapshots ∷ []) in
    ap (λ s. snapshots_in s.notes) last ∙ before ∙ omega (arith, jobs_emitted of p n jobs log is)
