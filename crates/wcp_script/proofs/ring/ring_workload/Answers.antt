use Rattle.wcp_script.proofs.Words.{◌≡◌, length, ◌++◌, sym, ap, subst, ◌∙◌, flat_map, range_with_len, CouldBeRead}
use Rattle.wcp_script.proofs.Words.{ring_fault, ring_round, arith, some_watched}
use Rattle.wcp_script.specs.Ring.{ring_tasks}
use Rattle.wcp_script.proofs.RingTasks.{length-ring_tasks, ring_could_be_read}
use Rattle.wcp_script.proofs.ring.ring_workload.Goals as goal

is_ring : (c : goal.In_ok-push_rounds) → c.push_rounds.new.tasks.items ≡ ring_tasks c.args.n c.args.rounds c.args.fault
unfolding ring_tasks
is_ring c =
    c.in_ok-push_rounds.ensures
    ∙ ap (λ tasks. tasks ++ flat_map (ring_round c.args.n c.args.rounds) (range_with_len 0 c.args.rounds))
    (c.in_ok-push_fault.ensures ∙ ap (λ tasks. tasks ++ ring_fault c.args.n c.args.fault) c.new-tasks.ensures.items)

pub returns-clause-tasks : goal.returns-clause-tasks
returns-clause-tasks c = is_ring c

pub returns-clause-count : goal.returns-clause-count
returns-clause-count c = ap length (is_ring c)
    ∙ length-ring_tasks c.args.n c.args.rounds c.args.fault c.requires.several c.requires.some_rounds

pub returns-clause-could_be_read : goal.returns-clause-could_be_read
returns-clause-could_be_read c =
    subst (CouldBeRead c.args.n) (sym (is_ring c)) (ring_could_be_read c.args.n c.args.rounds c.args.fault
    c.requires.several c.requires.few c.requires.some_rounds c.requires.few_rounds)

pub returns-clause-watched : goal.returns-clause-watched
returns-clause-watched c = some_watched c.in_ok-plan.plan (c.in_ok-plan.ensures.checked
    (omega (arith, c.requires.several)) c.requires.few (omega arith) (omega arith) (omega arith) (omega arith))
