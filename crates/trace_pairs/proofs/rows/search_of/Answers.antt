use Rattle.trace_pairs.proofs.Words.{◌≡◌, ◌∙◌, [], ◌∷◌, List, ap, subst, sym, watch_at, HostWatch, Text, AreInTurn}
use Rattle.std.specs.Prelude.{string_bytes}
use Rattle.trace_moment.specs.Search.{HasTaken, watched_by}
use Rattle.trace_pairs.specs.Kept.{all_kept, seen_events}
use Rattle.trace_pairs.proofs.Adding.{two_distinct}
use Rattle.trace_pairs.proofs.rows.search_of.Goals as goal

pub new-requires-clause-distinct : goal.new-requires-clause-distinct
new-requires-clause-distinct c =
    let pair : Text → List HostWatch = λ h. record { host = h; lasting = c.args.lasting }
    ∷ record { host = c.args.name.now; lasting = c.args.lasting } ∷ [] in
    two_distinct _ c.args.lasting (string_bytes c.args.host.now.name) c.args.name.now
    (c.in_ok-watched.ensures ∙ ap pair c.as_str.ensures.value) c.requires

pub returns : goal.returns
returns c =
    let pair : Text → List HostWatch = λ h. record { host = h; lasting = c.args.lasting }
    ∷ record { host = c.args.name.now; lasting = c.args.lasting } ∷ [] in
    let watched = c.in_ok-search.ensures.watched ∙ c.in_ok-watched.ensures ∙ ap pair c.as_str.ensures.value in
    let name = c.as_str-2.ensures.value in
    record {
      watched = c.in_ok-replay.ensures.watched ∙ watched;
      taken = λ turn. subst (λ (h : Text). AreInTurn (all_kept (seen_events h c.args.host.now.kept))
          → HasTaken (all_kept (seen_events h c.args.host.now.kept)) c.replay.new.search) name
          (c.in_ok-replay.ensures.taken c.in_ok-search.ensures.taken
          (name ∙ sym (ap (λ (w : List HostWatch). (watch_at w 0).host) watched))) turn;
    }
