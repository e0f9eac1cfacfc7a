use Rattle.std.proofs.Common.{◌≡◌, ◌∙◌, ◌++◌, ◌∷◌, [], ◌≤◌, ap, subst, string_bytes, length, rules}
use Rattle.std.proofs.Common.{append_assoc}
use Rattle.std.specs.Str.{IsUtf8}
use Rattle.trace_log.specs.Event.{most_bytes}
use Rattle.wullaphi_record.specs.Logs.{json_of, line_of, logged_at}
use Rattle.wullaphi_record.proofs.Places.{up_to}
use Rattle.wullaphi_record.proofs.Lines.{line_pushed}
use Rattle.wullaphi_record.proofs.log.push_record.Goals as goal

pub loop-at-preserved : goal.loop-at-preserved
loop-at-preserved c =
    let before = string_bytes c.args.log.now in
    let all = c.args.records.now in
    let own = c.args.own.now in
    let at = c.loop-at.at in
    let line = c.in_ok-line.ensures.line in
    let added : string_bytes c.push.new.self ≡ (string_bytes c.loop-at.log ++ string_bytes c.in_ok-line.line) ++ 10 ∷ [] =
    search rules in
    record {
      text = added ∙ append_assoc (string_bytes c.loop-at.log) (string_bytes c.in_ok-line.line) (10 ∷ [])
          ∙ ap (λ l. string_bytes c.loop-at.log ++ (l ++ 10 ∷ [])) line
          ∙ ap (λ l. l ++ line_of (logged_at all own at)) c.loop-at.invariant.text
          ∙ line_pushed all own at before;
      short = up_to (λ i. length (json_of (logged_at all own i)) ≤ most_bytes) at c.loop-at.invariant.short
          (subst (λ l. length l ≤ most_bytes) line c.in_ok-line.ensures.short);
      utf8 = up_to (λ i. IsUtf8 (json_of (logged_at all own i))) at c.loop-at.invariant.utf8
          (subst IsUtf8 line c.in_ok-line.ensures.utf8);
    }
