-- What is told of two hosts.
use Rattle.std.specs.Prelude.{List, [], ◌∷◌, map, string_bytes}
use Rattle.trace_pairs.specs.declared.moment.MatchedCount.{MatchedCount}
use Rattle.trace_pairs.specs.declared.moment.PairMember.{PairMember}
use Rattle.trace_pairs.specs.declared.moment.PairMoment.{PairMoment}
use Rattle.trace_detect.specs.Told.{Told, ToldCount, ToldMember, found, none}

-- A moment of two hosts is told, a member for each.
abbrev pub told_member : PairMember → ToldMember
told_member member = record { host = string_bytes member.host; line = member.line; text = string_bytes member.text }

abbrev pub pair_told : PairMoment → Told
pair_told moment = found (told_member moment.first ∷ told_member moment.second ∷ [])

-- It is told that no two have one, with how often the condition held at each host.
abbrev pub told_count : MatchedCount → ToldCount
told_count count = record { host = string_bytes count.host; events = count.events; matched = count.matched }

abbrev pub no_pair_told : List MatchedCount → Told
no_pair_told counts = none (map told_count counts)
