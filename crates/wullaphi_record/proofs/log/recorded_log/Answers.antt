use Rattle.std.proofs.Common.{◌≡◌, ◌∙◌, ◌++◌, ◌∷◌, [], ◌≤◌, ◌+◌, ap, sym, subst, string_bytes, length, rules, arith, flat_map, take}
use Rattle.std.proofs.Common.{get_or}
use Rattle.std.proofs.lemmas.List.{get_or_default, take_all}
use Rattle.trace_log.specs.Log.{most_lines}
use Rattle.wullaphi_record.specs.Recorded.{IsKept, Recording}
use Rattle.wullaphi_record.specs.Logs.{AreDistinct, IsWhyNoLog, IsReadWhole, Legible, events_of, line_of, log_of, logged_of}
use Rattle.std.proofs.Common.{Result, Err, add-one, take-suc}
use Rattle.std.specs.Prelude.{MatchResult}
use Rattle.std.specs.Result.{IsErr, IsErrAnd}
use Rattle.wullaphi_record.proofs.Lines.{record_pushed, why_no_log}
use Rattle.wullaphi_record.proofs.Coming.{log_read_at}
use Rattle.wullaphi_record.proofs.Places.{up_to}
use Rattle.wullaphi_record.proofs.log.recorded_log.Goals as goal

-- A fault that a call answered and that is handed on.
handed_on : {X F : Type 0} (P : Result X F → Type 0) (r : Result X F) (fault : F)
    → IsErr r × IsErrAnd r (λ given. given ≡ fault) → P (Err fault) → P r
handed_on P r fault h p = grind arith

pub returns-in_err-push_record-clause-first : goal.returns-in_err-push_record-clause-first
returns-in_err-push_record-clause-first c =
    let all = c.args.records.now in
    let apart : AreDistinct all = c.are_distinct.ensures.0 c.if-not-are_distinct.false in
    handed_on (λ r. MatchResult r (λ _. AreDistinct all) (IsWhyNoLog all)) c.from_residual.result
    c.in_err-push_record.field-0.0 c.from_residual.ensures
    (why_no_log all c.record-item.result c.in_err-push_record.field-0.0 apart
    (c.loop-record.record-index, c.loop-record-test.true, sym c.record-item.is) c.in_err-push_record.ensures.why)

pub loop-record-preserved : goal.loop-record-preserved
loop-record-preserved c =
    let all = c.args.records.now in
    let at = c.loop-record.record-index in
    let here : (one : Recording) → get_or all at one ≡ c.record-item.result =
    λ one. get_or_default all at one c.record-item.result c.loop-record-test.true ∙ sym c.record-item.is in
    let taken : take (at + 1) all ≡ take at all ++ c.record-item.result ∷ [] =
    rw add-one (take-suc all at c.record-item.result c.loop-record-test.true
    ∙ ap (λ (r : Recording). take at all ++ r ∷ []) (sym c.record-item.is)) in
    record {
      text = c.in_ok-push_record.ensures.added
          ∙ ap (λ l. l ++ flat_map line_of (logged_of all c.record-item.result)) c.loop-record.invariant.text
          ∙ sym (record_pushed all (take at all) c.record-item.result)
          ∙ ap (λ rs. flat_map line_of (flat_map (logged_of all) rs)) (sym taken);
      kept = λ k one. up_to (λ k. IsKept (get_or all k one)) at (λ k below. c.loop-record.invariant.kept k one below)
          (subst IsKept (sym (here one)) c.push_record.ensures.kept) k;
      legible = λ k one. up_to (λ k. Legible all (get_or all k one)) at
          (λ k below. c.loop-record.invariant.legible k one below)
          (subst (Legible all) (sym (here one)) c.in_ok-push_record.ensures.legible) k;
    }

pub returns-clause-read : goal.returns-clause-read
returns-clause-read c one_run =
    let all = c.args.records.now in
    let apart : AreDistinct all = c.are_distinct.ensures.0 c.if-not-are_distinct.false in
    let few : length (string_bytes c.loop-record.log) ≤ most_lines = search (rules, arith) in
    let end : length all ≤ c.loop-record.record-index = omega (arith, c.loop-record-test.false) in
    let whole : string_bytes c.loop-record.log ≡ log_of all =
    c.loop-record.invariant.text ∙ ap (λ rs. flat_map line_of (flat_map (logged_of all) rs))
    (take_all c.loop-record.record-index all end) in
    subst (λ bytes. IsReadWhole bytes (events_of all)) (sym whole) (log_read_at all apart
    (λ k one within. c.loop-record.invariant.kept k one (omega (arith, end, within)))
    (λ k one within. c.loop-record.invariant.legible k one (omega (arith, end, within)))
    (subst (λ bytes. length bytes ≤ most_lines) whole few) one_run)
