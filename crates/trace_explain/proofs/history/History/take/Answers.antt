use Rattle.std.proofs.lemmas.List.{get_or_default}
use Rattle.trace_log.specs.Turns.{seen_logged}
use Rattle.trace_moment.specs.Kept.{numbers_in}
use Rattle.trace_explain.specs.History.{Past, past_of, watch_past, watched_in}
use Rattle.trace_explain.proofs.Words.{◌≡◌, ◌∙◌, ◌<◌, length, length-map, ap, List, ℕ, PastHost, no_host, host_at, Taken}
use Rattle.trace_explain.proofs.Taking.{KeepNext-add, watched-add}
use Rattle.trace_explain.proofs.history.History.take.Goals as goal

pub returns-clause-taken : goal.returns-clause-taken
returns-clause-taken c taken keep next =
    let hosts = c.args.self.now.hosts.items in
    let within : c.args.place < length hosts = rw (length-map hosts watch_past) at c.requires in
    let read : c.index_mut.result.now ≡ host_at hosts c.args.place = c.index_mut.ensures.value
    ∙ get_or_default hosts c.args.place c.index_mut.result.now no_host within in
    let clock = (seen_logged c.args.logged.now).event.clock in
    let one : List ℕ → Past =
    λ (numbers : List ℕ). record { line = c.args.logged.now.line; holds = c.args.holds; numbers = numbers } in
    let taken_one : Taken = record { logged = seen_logged c.args.logged.now; holds = c.args.holds } in
    let numbers : one c.in_ok-numbers.numbers.items ≡ past_of (watched_in hosts) taken_one =
    ap one (c.in_ok-numbers.ensures ∙ ap (λ (all : List PastHost). numbers_in (watched_in all) clock)
    c.deref.ensures.value) in
    KeepNext-add hosts c.args.place c.index_mut.result.now c.add.new.self (one c.in_ok-numbers.numbers.items) within
    read taken taken_one keep next numbers c.add.result c.add.ensures.added c.add.ensures.unchanged

pub returns-clause-watched : goal.returns-clause-watched
returns-clause-watched c =
    let hosts = c.args.self.now.hosts.items in
    let within : c.args.place < length hosts = rw (length-map hosts watch_past) at c.requires in
    let read : c.index_mut.result.now ≡ host_at hosts c.args.place = c.index_mut.ensures.value
    ∙ get_or_default hosts c.args.place c.index_mut.result.now no_host within in
    let one : Past = record {
      line = c.args.logged.now.line;
      holds = c.args.holds;
      numbers = c.in_ok-numbers.numbers.items;
    } in
    watched-add hosts c.args.place c.index_mut.result.now c.add.new.self one within read c.add.result
    c.add.ensures.added c.add.ensures.unchanged
