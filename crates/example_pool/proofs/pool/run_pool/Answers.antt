use Rattle.std.proofs.Common.{refl}
use Rattle.example_pool.proofs.ToldPools.{is_pool_report}
use Rattle.example_pool.proofs.pool.run_pool.Goals as goal

pub returns : goal.returns
returns g c = is_pool_report 3 c.in_ok-plan.ensures.processes c.in_ok-plan.ensures.watched c.in_ok-plan.ensures.flag
    c.in_ok-members.ensures c.in_ok-watched.ensures _ c.in_ok-shares.ensures refl refl
