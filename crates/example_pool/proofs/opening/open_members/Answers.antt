use Rattle.example_pool.proofs.Words.{zero, suc, ◌+◌, ◌∷◌, [], All, length, refl, sym, ap, ◌∙◌, subst, arith}
use Rattle.example_pool.proofs.Words.{length-append, PoolMember, IsReplica}
use Rattle.std.proofs.lemmas.List.Elements.{All-append}
use Rattle.example_pool.proofs.opening.open_members.Goals as goal

all_one : (P : PoolMember → Type 0) (member : PoolMember) → P member → All P (member ∷ [])
all_one P member is zero d below = is
all_one P member is (suc k) d below = absurd (omega arith)

pub loop-place-preserved : goal.loop-place-preserved
loop-place-preserved c =
    let old = c.loop-place.invariant in
    record {
      partners = ap length c.in_ok-push.ensures.items ∙ length-append c.loop-place.partners.items _
          ∙ ap (λ k. k + 1) old.partners;
      members = ap length c.in_ok-push-2.ensures.items ∙ length-append c.loop-place.members.items _
          ∙ ap (λ k. k + 1) old.members;
      replicas = subst (All (IsReplica c.args.rounds)) (sym c.in_ok-push-2.ensures.items)
          (All-append (IsReplica c.args.rounds) c.loop-place.members.items _ old.replicas
          (all_one (IsReplica c.args.rounds) _ refl));
    }

pub returns : goal.returns
returns c = record {
  dispatcher = _;
  replicas = c.loop-place.members.items;
  has_pace = refl;
  has_rounds = refl;
  partners = ap length c.new.ensures ∙ c.loop-place.invariant.partners ∙ sym c.loop-place.invariant.members;
  all = c.in_ok-insert.ensures.items;
  rest = c.loop-place.invariant.replicas;
}
