-- Whom a leaf serves, and whom the other relays.
use Rattle.wcp_tree.proofs.Words.{◌≡◌, ◌≢◌, ◌==◌, ◌↔◌, ℕ, suc, Bool, true, false, true≢false, List, [], ◌∷◌, ◌<◌, ◌||◌}
use Rattle.wcp_tree.proofs.Words.{AllPairs, length, get_or, arith, common_steps, Option, Some, refl, sym, ap, ◌∙◌}
use Rattle.wcp_tree.proofs.Words.{list_any, slice_get, option_flatten, cases_eq, length-map, get_or-map, All-weaker}
use Rattle.wcp_tree.proofs.Words.{Any-from_list_any, slice_get-get_or, Root, Relay, Plan, IsCheckedPlan, is_number}
use Rattle.wcp_tree.proofs.Words.{is_leaf, leaf_of, parent_of, Numbers, Itself, IsBelow, AreBelow, TakeSide, Feed}
use Rattle.wcp_tree.proofs.Words.{Source, Leaf, Inner, IsNewFeed, Serves, processes_of, IsSource, IsFeed}
use Rattle.wcp_tree.proofs.Words.{AreBelowChildren, all_served, attached_exists, has_leaf, is_its_leaf, is_its_number}
use Rattle.wcp_tree.proofs.Words.{not_mixed}
use Rattle.std.specs.FinSet as set
use Rattle.wcp_relay.proofs.Parents.{members_pass_up}
use Rattle.wcp_tree.proofs.Climbs.{child_is_met, root_is_reached}

module _ (plan : Plan) (checked : IsCheckedPlan plan) (relay : ℕ) where
  -- a leaf serves some process
  some_process : is_leaf plan relay ≡ true → (p : ℕ) × (leaf_of plan p ≡ Some relay)
  some_process leaf =
      let served : list_any (is_number relay) plan.attach.items ≡ true =
      sym (ap (list_any (is_number relay)) (all_served plan checked)) ∙ leaf in
      let some = Any-from_list_any (is_number relay) plan.attach.items served in
      let number : some.1 ≡ Some relay = is_its_number relay some.1 some.4 in
      let at : slice_get plan.attach.items some.0 ≡ Some (get_or plan.attach.items some.0 some.1) =
      slice_get-get_or plan.attach.items some.0 some.1 some.2 in
      (some.0, ap option_flatten at ∙ some.3 ∙ number)

  -- so it is no relay's parent
  pub no_children : is_leaf plan relay ≡ true → (child : ℕ) → parent_of plan child ≡ Some (Relay relay) → ⊥
  no_children leaf child at =
      let own = some_process leaf in not_mixed plan checked relay child own.0 own.1 at

  -- a leaf serves its own alone
  pub own_alone : is_leaf plan relay ≡ true → (p : ℕ) → IsBelow plan relay p → leaf_of plan p ≡ Some relay
  own_alone leaf p below =
      grind (
        arith,
        common_steps,
        below.1,
        (λ (apart : relay ≢ below.0). child_is_met plan checked relay below.0 apart
            below.2),
        no_children leaf,
        cases_eq relay below.0,
      )

  -- below a relay that is no leaf are the processes below its children
  pub below_by_children : is_leaf plan relay ≡ false → (members : Numbers)
      → AreBelowChildren plan (Relay relay) members → AreBelow plan relay members
  below_by_children leaf members are = λ p. (
    (λ has. let child = (are p).0 has in members_pass_up plan child.0 relay p child.1 child.2),
    (λ below. (are p).1 (child_of p below)),
  )
    where
      child_of : (p : ℕ) → IsBelow plan relay p
          → (child : ℕ) × (parent_of plan child ≡ Some (Relay relay)) × IsBelow plan child p
      child_of p below =
          let apart : relay ≢ below.0 =
          λ same. true≢false (sym (is_its_leaf plan checked p relay (below.1 ∙ ap (λ n. Some n) (sym same))) ∙ leaf) in
          let child = child_is_met plan checked relay below.0 apart below.2 in
          (child.0, child.1, (below.0, below.1, child.2))

-- two tests that pass together are one
same_test : (a b : Bool) → (a ≡ true) ↔ (b ≡ true) → a ≡ b
same_test true b both = sym (both.0 refl)
same_test false true both = both.1 refl
same_test false false both = refl

-- feeds of different processes
processes_apart : (feeds : List Feed) → AllPairs (λ a b. a.process ≢ b.process) feeds
    → AllPairs (λ p q. p ≢ q) (processes_of feeds)
processes_apart [] apart i j d less within = absurd (omega arith)
processes_apart (feed ∷ feeds) apart i j d less within =
    let all = feed ∷ feeds in
    let few : j < length all = omega (arith, within, length-map all (λ (f : Feed). f.process)) in
    let one = get_or-map (λ (f : Feed). f.process) all i feed d (omega arith) in
    let other = get_or-map (λ (f : Feed). f.process) all j feed d few in
    λ same. apart i j feed less few (sym one ∙ same ∙ other)

feeds_any : (feeds : List Feed) (p : ℕ)
    → list_any (λ q. q == p) (processes_of feeds) ≡ list_any (λ (feed : Feed). feed.process == p) feeds
feeds_any [] p = refl
feeds_any (feed ∷ feeds) p = ap (λ any. (feed.process == p) || any) (feeds_any feeds p)

-- a source that was opened serves the processes below its relay
pub source_serves : (plan : Plan) → IsCheckedPlan plan → (relay : ℕ) (takers : List (Option TakeSide)) (source : Source)
    (members : Numbers) → IsSource plan takers relay source → AreBelow plan relay members → Serves source members
source_serves plan checked relay takers (Leaf feeds sleeper) members is below = (
  All-weaker (IsFeed plan relay takers plan.n) IsNewFeed
      (λ feed new. (new.first, new.unended, new.not_lost, ap length new.taker.1))
      feeds.items is.1.each,
  processes_apart feeds.items is.1.apart,
  λ p. same_test (set.contains members p) (list_any (λ (feed : Feed). feed.process == p) feeds.items) (
    (λ has.
        let own = own_alone plan checked relay is.0 p ((below p).0 has) in
        let within = (attached_exists plan checked p relay own).0 in
        (is.1.processes p).1 (within, own)),
    (λ fed.
        let own = ((is.1.processes p).0 fed).1 in
        (below p).1 (relay, own, Itself)),
  ) ∙ sym (feeds_any feeds.items p),
)
source_serves plan checked relay takers (Inner taker) members is below = (
  ap length is.1,
  λ p has. (below p).1 ((is.2 p).0 has),
)

-- below the relays under the root are just the processes of the plan
pub all_below_root : (plan : Plan) → IsCheckedPlan plan → (members : Numbers) → AreBelowChildren plan Root members
    → (p : ℕ) → (set.contains members p ≡ true) ↔ (p < plan.n)
all_below_root plan checked members are p = (
  (λ has. let child = (are p).0 has in (attached_exists plan checked p child.2.0 child.2.1).0),
  (λ below.
      let leaf = has_leaf plan checked p below in
      let there = (attached_exists plan checked p leaf.0 leaf.1).1 in
      let top = root_is_reached plan checked (suc leaf.0) leaf.0 (omega arith) there in
      (are p).1 (top.0, top.1, (leaf.0, leaf.1, top.2))),
)
