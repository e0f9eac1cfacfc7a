use Rattle.std.proofs.Common.{◌≡◌, ◌∙◌, ◌∷◌, ◌++◌, [], ap, sym, subst, option_map, take, length}
use Rattle.std.proofs.Common.{Some, arith}
use Rattle.std.specs.HashMap.{get_by_text}
use Rattle.trace_order.specs.Giving.{after_reading, event_read, number_in, with_host, with_waiting}
use Rattle.trace_order.specs.Ids.{AreNew, HasSecond, is_known, second_in, with_announced}
use Rattle.trace_order.specs.Messages.{MessageEvent}
use Rattle.trace_order.specs.State.{HasOrdered, IsBehind, is_announced, line_of}
use Rattle.trace_order.proofs.Hosts.{without_host}
use Rattle.trace_order.proofs.Kept.{same_kept}
use Rattle.trace_order.proofs.Noting.{none_second}
use Rattle.trace_order.proofs.order.MessageOrder.read.Goals as goal

event_is : (c : goal.In-Ok) → c.event.result ≡ event_read c.args.self.now.hosts.items c.args.line c.args.words
event_is c =
    let words = c.args.words in
    c.event.ensures
    ∙ ap (λ n. record {
      line = c.args.line;
      host = n;
      text = words.text;
      receives = words.receives;
      sends = words.sends;
    }) (c.in_ok-number.ensures.number ∙ ap (number_in c.args.self.now.hosts.items) c.host.ensures)

pub returns-in-Ok-clause-taken : goal.returns-in-Ok-clause-taken
returns-in-Ok-clause-taken c = λ log given ordered behind.
    subst (λ e. HasOrdered (log ++ e ∷ []) given c.put.new.self) (event_is c)
    (c.in-Ok.ensures.taken log given (c.number.ensures.stays log given ordered)
    (subst (λ e. IsBehind log e) (sym (event_is c)) behind))

pub returns-in-Ok-clause-kept : goal.returns-in-Ok-clause-kept
unfolding after_reading
returns-in-Ok-clause-kept c =
    let hosts = c.args.self.now.hosts.items in
    let words = c.args.words in
    same_kept _ _ _ _ _ _
    (c.in-Ok.ensures.hosts
    ∙ ap (λ l. with_waiting l c.event.result)
    (c.in_ok-number.ensures.hosts ∙ ap (with_host hosts) c.host.ensures)
    ∙ ap (with_waiting (with_host hosts words.host)) (event_is c))
    (λ id. c.in-Ok.ensures.announced id
    ∙ ap (λ s. with_announced (get_by_text s) c.event.result.line c.event.result.sends id) c.number.ensures.announced
    ∙ ap (λ (e : MessageEvent). with_announced (line_of c.args.self.now) e.line e.sends id) (event_is c))
    (λ id. ap (λ s. option_map (λ clock. clock.items) (get_by_text s id)) (c.put.ensures.sent ∙ c.number.ensures.sent))

new_ones : (c : goal.In-Ok) → AreNew (is_announced c.args.self.now) c.args.words.sends
new_ones c =
    subst (λ l. AreNew (is_announced c.args.self.now) l) (ap (λ (e : MessageEvent). e.sends) (event_is c))
    (subst (λ s. AreNew (is_known (get_by_text s)) c.event.result.sends) c.number.ensures.announced c.in-Ok.ensures.new)

pub returns-in-Ok-clause-new : goal.returns-in-Ok-clause-new
returns-in-Ok-clause-new c = new_ones c

pub returns-in-Ok-clause-none_second : goal.returns-in-Ok-clause-none_second
returns-in-Ok-clause-none_second c = none_second (line_of c.args.self.now) c.args.line c.args.words.sends (new_ones c)

pub returns-in-Err-clause-twice : goal.returns-in-Err-clause-twice
returns-in-Err-clause-twice c = λ second is.
    subst (λ l. HasSecond (is_announced c.args.self.now) l) (ap (λ (e : MessageEvent). e.sends) c.event.ensures)
    (subst (λ s. HasSecond (is_known (get_by_text s)) c.event.result.sends) c.number.ensures.announced
    (c.put.ensures.twice second (c.in-Err.is ∙ is)))

pub returns-in-Err-clause-first_second : goal.returns-in-Err-clause-first_second
returns-in-Err-clause-first_second c = λ second is.
    subst (λ (e : MessageEvent). second_in (line_of c.args.self.now) e.line e.sends ≡ Some second) c.event.ensures
    (subst (λ s. second_in (get_by_text s) c.event.result.line c.event.result.sends ≡ Some second)
    c.number.ensures.announced (c.put.ensures.first_second second (c.in-Err.is ∙ is)))

pub returns-in-Err-clause-same : goal.returns-in-Err-clause-same
returns-in-Err-clause-same c =
    let hosts = c.args.self.now.hosts.items in
    let known : c.len-known.result ≡ length hosts = omega (arith, c.len-known.ensures) in
    same_kept _ _ _ _ _ _
    (c.truncate.ensures.items ∙ ap (take c.len-known.result) (c.in-Err.ensures.same ∙ c.in_ok-number.ensures.hosts)
    ∙ ap (λ n. take n (with_host hosts c.host.result.now)) known
    ∙ without_host hosts c.host.result.now)
    (λ id. c.in-Err.ensures.none id ∙ ap (λ s. get_by_text s id) c.number.ensures.announced)
    (λ id. ap (λ s. option_map (λ clock. clock.items) (get_by_text s id)) (c.put.ensures.sent ∙ c.number.ensures.sent))
