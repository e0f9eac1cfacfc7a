use Rattle.std.proofs.Common.{◌≡◌, ◌∷◌, [], ◌++◌, All, append_assoc, sym, ap, subst, ◌∙◌}
use Rattle.std.proofs.lemmas.List.Elements.{All-head, All-tail}
use Rattle.std.proofs.lemmas.List.{map_push}
use Rattle.std.specs.Vec.Iter.{into_iter_items}
use Rattle.wcp_relay.specs.declared.relay.Relay.{Relay}
use Rattle.wullaphi.proofs.OwnWatches.{pushed_more}
use Rattle.wullaphi.specs.Opened.{HasOpened, IsRelayOf}
use Rattle.wullaphi.proofs.opening.name_relays.Goals as goal

pub new-requires : goal.new-requires
new-requires g c =
    let its : Relay → Type 0 = λ relay. HasOpened (IsRelayOf relay) g.W.Opening.opened in
    All-head its c.in-Some.relay _
    (subst (All its) c.in-Some.ensures.steps.0 c.loop-relay.invariant.rest)

pub loop-relay-preserved : goal.loop-relay-preserved
loop-relay-preserved g c =
    let its : Relay → Type 0 = λ relay. HasOpened (IsRelayOf relay) g.W.Opening.opened in
    let old = c.loop-relay.invariant in
    let rest = into_iter_items c.next.new.self in
    let next : into_iter_items c.loop-relay.relay-iterator ≡ c.in-Some.relay ∷ rest = c.in-Some.ensures.steps.0 in
    record {
      whole = append_assoc c.loop-relay.yielded (c.in-Some.relay ∷ []) rest
          ∙ ap (λ xs. c.loop-relay.yielded ++ xs) (sym next)
          ∙ old.whole;
      rest = All-tail its c.in-Some.relay _ (subst (All its) next old.rest);
      named = pushed_more c.in_ok-push.ensures.items c.new.ensures old.named
          ∙ sym (map_push (λ (relay : Relay). relay.number) c.loop-relay.yielded c.in-Some.relay);
    }

pub loop-relay-init : goal.loop-relay-init
loop-relay-init g c =
    let all = c.into_iter-relay-iterator.ensures.into_iter_gives.0 in
    record {
      whole = all;
      rest = subst (All (λ relay. HasOpened (IsRelayOf relay) g.W.Opening.opened)) (sym all) c.requires;
      named = c.in_ok-named.ensures.items;
    }
