use Rattle.wcp_relay.proofs.Words.{sym, ap, ◌∙◌, refl, rules, drop, [], append-nil, Held}
use Rattle.wcp_relay.proofs.LeafWork.{if_some}
use Rattle.wcp_relay.proofs.Passing.{first_follow, handed_passed, sound_passed, sound_same, held_fewer, is_none}
use Rattle.wcp_relay.proofs.Passing.{bundles_passed}
use Rattle.wcp_relay.proofs.Passing.{if_none}
use Rattle.wcp_relay.proofs.outlet.Outlet.pass_on.Goals as goal

pub loop-bundle-init : goal.loop-bundle-init
loop-bundle-init g c = record {
  same = search rules;
  sound = c.requires;
  handed = refl;
  bundles = ([], sym (append-nil c.args.self.now.putter.messages), refl);
  uncut = is_none _ (sym c.is_some.ensures ∙ c.if-is_some.false);
}

pub returns-then-is_some-clause-bundles : goal.returns-then-is_some-clause-bundles
returns-then-is_some-clause-bundles g c = ([], sym (append-nil c.args.self.now.putter.messages), refl)

pub returns-in-Err-clause-bundles : goal.returns-in-Err-clause-bundles
returns-in-Err-clause-bundles g c = rw c.in-Err.ensures.err.1 c.loop-bundle.invariant.bundles

pub put-requires : goal.put-requires
put-requires g c =
    first_follow c.loop-bundle.self c.in-Some.bundle c.loop-bundle.invariant.sound
    (if_some _ _ _ c.in-Some.is c.first_bundle.ensures.some)

pub returns-in-Err-clause-sound : goal.returns-in-Err-clause-sound
returns-in-Err-clause-sound g c =
    sound_same c.loop-bundle.self _ c.loop-bundle.invariant.sound c.in-Err.ensures.err.1 refl

pub loop-bundle-smaller : goal.loop-bundle-smaller
loop-bundle-smaller g c =
    let first = if_some _ _ _ c.in-Some.is c.first_bundle.ensures.some in
    let held = c.loop-bundle.self.hold in
    let rest = c.let_go.ensures
    ∙ ap (λ n. let h : Held = record held { items = drop n held.items } in h) c.len-count.ensures.count in
    held_fewer held c.let_go.new.hold c.in-Some.bundle first c.len-count.ensures.bundle.some rest

pub loop-bundle-preserved : goal.loop-bundle-preserved
loop-bundle-preserved g c =
    let first = if_some _ _ _ c.in-Some.is c.first_bundle.ensures.some in
    let old = c.loop-bundle.invariant in
    let held = c.loop-bundle.self.hold in
    let put = c.in_default-put.ensures.ok in
    let rest = c.let_go.ensures
    ∙ ap (λ n. let h : Held = record held { items = drop n held.items } in h) c.len-count.ensures.count in
    record {
      same = search rules;
      sound = sound_passed c.loop-bundle.self _ c.in-Some.bundle old.sound first put rest;
      handed = handed_passed c.loop-bundle.self (record c.loop-bundle.self
          { putter = c.put.new.putter; hold = c.let_go.new.hold }) c.in-Some.bundle first put rest ∙ old.handed;
      bundles = bundles_passed c.args.self.now c.loop-bundle.self (record c.loop-bundle.self
          { putter = c.put.new.putter; hold = c.let_go.new.hold }) c.in-Some.bundle old.bundles first put rest;
      uncut = old.uncut;
    }

pub returns-clause-empty : goal.returns-clause-empty
returns-clause-empty g c =
    rw c.loop-bundle.invariant.uncut
    (is_none _ (sym c.is_some.ensures ∙ c.if-is_some.false), if_none _ _ c.in_default.is c.first_bundle.ensures.none)
