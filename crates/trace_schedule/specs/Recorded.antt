-- What a source that keeps what another one gives tells of what is read.
use Rattle.std.specs.Prelude.{◌≡◌, [], ◌∷◌, ◌++◌}
use Rattle.trace_source.specs.Story.{Story}
use Rattle.trace_schedule.specs.declared.recorded.Recorded.{Recorded}

-- It is what the other one tells, and the events that were given are kept.
abbrev pub recorded_story : {S : Type 0} → Story S → Story (Recorded S)
recorded_story story = record {
  gave = λ logged recorded. story.gave logged recorded.source × (recorded.events.items ≡ logged);
  gives = λ before one recorded. story.gives before one recorded.source
      × (recorded.events.items ≡ before ++ one ∷ []);
  ended = λ logged recorded. story.ended logged recorded.source × (recorded.events.items ≡ logged);
  fails = story.fails;
  checks = story.checks;
}
