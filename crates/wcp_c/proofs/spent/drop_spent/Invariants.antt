use Rattle.std.proofs.Common.{All, ◌-◌, ◌⊎◌, vec_len}
use Rattle.std.specs.List.{Contains}
use Rattle.wcp_c.specs.Questions.{checkers_of}
use Rattle.wcp_c.specs.Tags.{IsSpent}
use Rattle.wcp_saved.specs.declared.watch.Tagged.{Tagged}
use Rattle.wcp_c.proofs.spent.drop_spent.Given as goal

abbrev pub invariant-tags : goal.invariant-tags
invariant-tags l = record {
  right : (tagged : Tagged) → Contains l.tags.items tagged → Contains l.initial.tags.items tagged;
  kept : (tagged : Tagged) → Contains l.initial.tags.items tagged
      → Contains l.tags.items tagged ⊎ All (λ checker. IsSpent checker tagged) (checkers_of l.questions);
}

abbrev pub decreases-tags : goal.decreases-tags
decreases-tags l = vec_len l.tags - l.place
