-- The first host that logs nothing.
use Rattle.std.proofs.lemmas.Grind.{common_steps}
use Rattle.trace_detect.proofs.Words.{◌≡◌, ◌∙◌, ◌+◌, ◌<◌, ◌≤◌, ℕ, List, [], length, take, sym, ap, arith}
use Rattle.trace_detect.proofs.Words.{slice_index_or}
use Rattle.trace_detect.proofs.Words.{Logged, Condition, Judged, host_of, events_at, AreJudges}
use Rattle.std.proofs.lemmas.List.{take_all}
use Rattle.std.proofs.lemmas.List.Elements.{All-more}
use Rattle.trace_detect.specs.Detection.{AllLog, IsFirstSilent, IsSilent}

none_of_length : {X : Type 0} (xs : List X) → length xs ≡ 0 → xs ≡ []
none_of_length xs none = grind (arith, common_steps)

at_zero : (conditions : List Condition) (logged : List Logged) (judges : List Judged) (place : ℕ) (c : Condition)
    (j : Judged) → AreJudges conditions logged judges → place < length judges
    → (slice_index_or judges place j).tally.events
    ≡ length (events_at (host_of (slice_index_or conditions place c)) logged)
at_zero conditions logged judges place c j are within = (are.each place c j (omega (arith, are.as_many))).events

pub silent_at : (conditions : List Condition) (logged : List Logged) (judges : List Judged) (place : ℕ) (j : Judged)
    → AreJudges conditions logged judges → place < length judges → (slice_index_or judges place j).tally.events ≡ 0
    → AllLog logged (take place conditions) → IsFirstSilent logged conditions place
silent_at conditions logged judges place j are within zero before = record {
  within = omega (arith, are.as_many);
  silent = λ c. none_of_length (events_at (host_of (slice_index_or conditions place c)) logged)
      (sym (at_zero conditions logged judges place c j are within) ∙ zero);
  before = before;
}

pub log_at : (conditions : List Condition) (logged : List Logged) (judges : List Judged) (place : ℕ) (j : Judged)
    (c : Condition) → AreJudges conditions logged judges → place < length judges
    → ((slice_index_or judges place j).tally.events ≡ 0 → ⊥)
    → AllLog logged (take place conditions) → AllLog logged (take (place + 1) conditions)
log_at conditions logged judges place j c are within some before =
    All-more (λ condition. IsSilent logged condition → ⊥) conditions place c (omega (arith, are.as_many)) before
    (λ silent. some (at_zero conditions logged judges place c j are within ∙ ap length silent))

pub all_log : (conditions : List Condition) (logged : List Logged) (judges : List Judged) (place : ℕ)
    → AreJudges conditions logged judges → length judges ≤ place → AllLog logged (take place conditions)
    → AllLog logged conditions
all_log conditions logged judges place are all before = grind (arith, take_all, are.as_many)

pub log_next : (conditions : List Condition) (logged : List Logged) (judges : List Judged) (place : ℕ) (j : Judged)
    → AreJudges conditions logged judges → place < length judges
    → ((slice_index_or judges place j).tally.events ≡ 0 → ⊥)
    → AllLog logged (take place conditions) → AllLog logged (take (place + 1) conditions)
log_next conditions logged judges place j are within some before = grind (arith, common_steps, are.as_many, log_at)
