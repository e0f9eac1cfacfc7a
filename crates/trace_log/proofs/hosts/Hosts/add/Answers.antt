use Rattle.trace_log.proofs.Words.{ap, ◌∙◌, ◌++◌, ◌∷◌, [], sym, subst, string_bytes, hash_map_updates_text, cond}
use Rattle.trace_log.proofs.Words.{bytes_eq, Some, seen_clock, length}
use Rattle.trace_log.specs.Hosts.{number_among, AreNumbered, KeepsClock}
use Rattle.trace_log.proofs.HostNumbers.{number-add, numbered-add, keeps-add}
use Rattle.trace_log.proofs.hosts.Hosts.add.Goals as goal

pub invariant_of-self-2 : goal.invariant_of-self-2
invariant_of-self-2 c =
    let hosts = c.self.inside.list.items in
    let host = c.new-host.result in
    let key = string_bytes c.in_ok-name.name in
    let named = c.new-host.ensures.name ∙ c.in_ok-from_str.ensures.ok in
    let none = ap (λ n. number_among n hosts) named ∙ ap (λ l. number_among c.args.name.now l) c.self.view_is
    ∙ c.requires.new in
    let size = c.len-number.ensures ∙ c.self.inside.list.ok.0 in
    let pushed = c.push_reserved.ensures.items ∙ ap (λ l. l ++ host ∷ []) c.in_ok-reserve.ensures.items in (
      λ other. hash_map_updates_text key c.self.inside.numbers c.insert.new.self _ c.in_ok-insert.ensures.updates
          other
          ∙ ap (λ o. cond (bytes_eq key other) (Some c.len-number.result) o) (c.self.invariant.0 other)
          ∙ ap (λ n. cond (bytes_eq key other) (Some n) (number_among other hosts)) size
          ∙ ap (λ n. cond (bytes_eq n other) (Some (length hosts)) (number_among other hosts))
          (c.in_ok-name.ensures.ok ∙ sym named) ∙ sym (number-add hosts host other none)
          ∙ ap (λ l. number_among other l) (sym pushed),
      subst AreNumbered (sym pushed) (numbered-add hosts host none c.self.invariant.1),
    )

pub returns-clause-kept : goal.returns-clause-kept
returns-clause-kept c =
    let hosts = c.self.inside.list.items in
    let host = c.new-host.result in
    let named = c.new-host.ensures.name ∙ c.in_ok-from_str.ensures.ok in
    let none = ap (λ n. number_among n hosts) named ∙ ap (λ l. number_among c.args.name.now l) c.self.view_is
    ∙ c.requires.new in
    let size = c.len-number.ensures ∙ c.self.inside.list.ok.0 in
    let pushed = c.push_reserved.ensures.items ∙ ap (λ l. l ++ host ∷ []) c.in_ok-reserve.ensures.items in
    let kept = keeps-add hosts host none in
    subst (λ all. KeepsClock all c.args.name.now (seen_clock c.args.clock.items) c.len-number.result
    c.push_reserved.new.self.items) c.self.view_is (
    subst (λ new. KeepsClock hosts c.args.name.now (seen_clock c.args.clock.items) c.len-number.result new)
    (sym pushed) (
    subst (λ n. KeepsClock hosts c.args.name.now (seen_clock c.args.clock.items) n (hosts ++ host ∷ [])) (sym size) (
    subst (λ l. KeepsClock hosts c.args.name.now l (length hosts) (hosts ++ host ∷ [])) c.new-host.ensures.clock (
    subst (λ n. KeepsClock hosts n host.clock (length hosts) (hosts ++ host ∷ [])) named kept
    )
    )
    )
    )
