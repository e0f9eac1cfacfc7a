use Rattle.wcp_worker.proofs.Words.{◌≡◌, [], ◌∷◌, ap, ◌∙◌, rules, arith, list_any, common_steps, Numbers, new_putter}
use Rattle.wcp_worker.proofs.Words.{alone}
use Rattle.std.specs.FinSet as set
use Rattle.wcp_worker.proofs.NewLanes.{new_ends}
use Rattle.wcp_worker.proofs.new_lane.new_lane.Goals as goal

pub returns-in-Some : goal.returns-in-Some
returns-in-Some c =
    let numbers : c.with.result ≡ alone c.args.p = search rules in
    let is : c.in-Some.putter ≡ new_putter c.in-Ok.taker.lane (alone c.args.p) =
    first_of (search rules, grind (arith, common_steps)) in (
      (search rules, search rules),
      new_ends c.args.p c.args.count c.in-Some.putter c.in-Ok.taker c.in_ok-bell.bell c.in_ok-sleeper.sleeper is
          (λ q. c.in-Ok.ensures.members q
          ∙ ap (λ (n : Numbers). list_any (λ (numbers : Numbers). set.contains numbers q) (n ∷ [])) numbers)
          c.in-Ok.ensures.empty,
    )
