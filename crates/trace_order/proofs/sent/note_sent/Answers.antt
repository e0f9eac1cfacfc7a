use Rattle.std.proofs.Common.{◌≡◌, ◌∙◌, ◌+◌, ◌<◌, ◌++◌, ◌∷◌, ◌||◌, [], map, take, string_bytes, length, arith, ap, sym}
use Rattle.std.proofs.Common.{Vec, Global, ℕ, Some, cond, option_map}
use Rattle.std.proofs.lemmas.List.{length-map, length-take-le, length_push, map-append, take_all, take_more}
use Rattle.std.proofs.lemmas.Map.Text.{hash_map_updates_text}
use Rattle.std.specs.HashMap.{get_by_text}
use Rattle.std.specs.Str.{bytes_eq}
use Rattle.trace_order.specs.Ids.{id_at}
use Rattle.trace_order.specs.Messages.{is_among}
use Rattle.trace_order.specs.Sent.{Sent, seen_sent, sent_with}
use Rattle.trace_order.proofs.Noting.{among_more, if_err, last_of, noted_at, noted_last, when_ok}
use Rattle.trace_order.proofs.Texts.{reordered_text}
use Rattle.trace_order.proofs.sent.note_sent.Goals as goal

pub loop-id-init : goal.loop-id-init
loop-id-init c =
    let ids = map string_bytes c.args.ids.now in
    let noted = c.in_ok-noted.noted.items in
    let many : length noted ≡ length c.args.ids.now =
    sym (length-map noted seen_sent) ∙ ap length c.in_ok-noted.ensures ∙ length-map ids (sent_with c.args.clock.now)
    ∙ length-map c.args.ids.now string_bytes in
    let all = take_all (length noted) ids (omega (arith, many, length-map c.args.ids.now string_bytes)) in
    record {
      few = omega (arith, many);
      rest = c.in_ok-noted.ensures ∙ ap (map (sent_with c.args.clock.now)) (sym all);
      room = omega (arith, c.in_ok-reserve.ensures.ok, c.len.ensures);
      sends = λ id. ap (λ l. cond (is_among id l) (Some c.args.clock.now)
          (option_map (λ (v : Vec ℕ Global). v.items) (get_by_text c.reserve.new.self id))) all;
    }

pub loop-id-preserved : goal.loop-id-preserved
loop-id-preserved c =
    let ids = map string_bytes c.args.ids.now in
    let clock = c.args.clock.now in
    let f = sent_with clock in
    let noted = c.loop-id.noted.items in
    let rest = c.pop.new.self.items in
    let last = c.in-Some.field-0 in
    let r = length rest in
    let key = string_bytes last.id in
    let popped : noted ≡ rest ++ last ∷ [] = c.in-Some.ensures.items in
    let many : length noted ≡ r + 1 = ap length popped ∙ length_push rest last in
    let within : r < length ids =
    omega (arith, many, c.loop-id.invariant.few, length-map c.args.ids.now string_bytes) in
    let all = c.loop-id.invariant.rest ∙ ap (λ n. map f (take n ids)) many ∙ ap (map f) (take_more ids r [] within)
    ∙ map-append f (take r ids) (id_at ids r ∷ []) in
    let same_length : length (map seen_sent rest) ≡ length (map f (take r ids)) =
    length-map rest seen_sent ∙ sym (length-map (take r ids) f ∙ length-take-le r ids (omega (arith, within))) in
    let both = last_of (map seen_sent noted) (map f (take r ids)) (map seen_sent rest) (f (id_at ids r))
    (seen_sent last) all (ap (map seen_sent) popped ∙ map-append seen_sent rest (last ∷ [])) same_length in
    let here : key ≡ id_at ids r = ap (λ (s : Sent). s.id) both.1 in
    let value : last.clock.items ≡ clock = ap (λ (s : Sent). s.clock) both.1 in
    let updates = when_ok c.insert.result (sym c.is_err.ensures.value ∙ c.if-is_err.false) c.insert.ensures.updates in
    record {
      few = omega (arith, many, c.loop-id.invariant.few);
      rest = both.0;
      room = omega (arith, many, c.loop-id.invariant.room, c.insert.ensures.spare);
      sends = λ id.
          let old = get_by_text c.loop-id.sent id in
          let among = is_among id (take r ids) in
          let seen = option_map (λ (v : Vec ℕ Global). v.items) in
          ap (λ o. cond among (Some clock) (seen o))
          (hash_map_updates_text key c.loop-id.sent c.insert.new.self _ updates id)
          ∙ ap (λ o. cond among (Some clock) o)
          (noted_at (λ (v : Vec ℕ Global). v.items) (bytes_eq key id) last.clock old
          ∙ ap (λ l. cond (bytes_eq key id) (Some l) (seen old)) value)
          ∙ noted_last among (bytes_eq key id) clock (seen old)
          ∙ ap (λ k. cond (among || bytes_eq k id) (Some clock) (seen old)) here
          ∙ ap (λ b. cond b (Some clock) (seen old)) (sym (among_more id ids r within))
          ∙ ap (λ n. cond (is_among id (take n ids)) (Some clock) (seen old)) (sym many)
          ∙ c.loop-id.invariant.sends id;
    }

pub returns-clause-noted : goal.returns-clause-noted
returns-clause-noted c = λ id.
    let ids = map string_bytes c.args.ids.now in
    let clock = c.args.clock.now in
    let seen = option_map (λ (v : Vec ℕ Global). v.items) in
    let none : 0 ≡ length c.loop-id.noted.items = omega (arith, c.in_default.ensures.cases.0) in
    ap (λ n. cond (is_among id (take n ids)) (Some clock) (seen (get_by_text c.loop-id.sent id))) none
    ∙ c.loop-id.invariant.sends id
    ∙ ap (λ o. cond (is_among id ids) (Some clock) (seen o))
    (reordered_text c.args.sent.now c.reserve.new.self c.in_ok-reserve.ensures.entries id)

pub returns-in_err-reserve-clause-same : goal.returns-in_err-reserve-clause-same
returns-in_err-reserve-clause-same c =
    if_err c.from_residual-in_err-reserve.result
    (reordered_text c.args.sent.now c.reserve.new.self c.in_err-reserve.ensures.entries)
