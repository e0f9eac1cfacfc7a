use Rattle.std.proofs.Common.{◌≡◌, refl, map, ap, ◌∙◌, List, [], ◌∷◌, arith, ℕ}
use Rattle.std.proofs.lemmas.List.{take_all}
use Rattle.trace_moment.specs.Kept.{numbers_in}
use Rattle.trace_log.specs.Clock.{Member, number_of}
use Rattle.trace_log.specs.Seen.{seen_clock}
use Rattle.trace_explain.specs.History.{PastHost, watched_in}
use Rattle.trace_explain.proofs.history.numbers_in.Goals as goal

numbers_of_watches : (clock : List Member) (hosts : List PastHost)
    → map (λ host. number_of host.host clock) hosts ≡ numbers_in (watched_in hosts) clock
numbers_of_watches clock [] = refl
numbers_of_watches clock (host ∷ others) =
    ap (λ (rest : List ℕ). number_of host.host clock ∷ rest) (numbers_of_watches clock others)

pub returns : goal.returns
returns c = c.loop-host.invariant ∙ ap (map (λ host. number_of host.host (seen_clock c.args.clock.now)))
    (take_all c.loop-host.host-index c.args.hosts.now (omega arith))
    ∙ numbers_of_watches (seen_clock c.args.clock.now) c.args.hosts.now
