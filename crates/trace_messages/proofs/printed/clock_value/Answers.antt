use Rattle.std.proofs.Common.{◌≡◌, ◌∙◌, ◌+◌, ◌<◌, ℕ, map, drop, length, get_or, ap, sym, subst}
use Rattle.std.proofs.Common.{arith, nat_eq, false, true}
use Rattle.std.proofs.lemmas.Bool.{eq-eqb, ne_eqb}
use Rattle.json.specs.Tree.{MembersHaveNumbers, HasNumbers}
use Rattle.json.specs.Json.{object, number}
use Rattle.json.specs.Value.{members_view}
use Rattle.trace_order.specs.State.{names_in}
use Rattle.trace_messages.specs.Printed.{members_from}
use Rattle.trace_messages.proofs.ClockMembers.{joined, pushed, numbers_push, next_passed, all_counted, seen}
use Rattle.trace_messages.proofs.ClockMembers.{view_number, view_members, digits_at}
use Rattle.json.proofs.Printed.Decimals.{IsNumber-decimal}
use Rattle.json.proofs.Trees.{view-Object}
use Rattle.json.specs.declared.value.Value.{Value}
use Rattle.json.specs.declared.value.Value.TheVariants.{Number}
use Rattle.std.proofs.Common.{List, Global, string_bytes, ◌^◌, Fits, w32, rules}
use Rattle.std.specs.Borrow.{Bor}
use Rattle.std.specs.Fmt.{decimal}
use Rattle.trace_messages.proofs.printed.clock_value.Goals as goal
use Rattle.trace_messages.proofs.printed.clock_value.Goals.{then-clock-host-gt0+in_ok-push, else-clock-host-gt0}

small : {n : ℕ} → Fits w32 n → n < 2 ^ 64
small fits = search (rules, arith)

pub loop-host-preserved : goal.loop-host-preserved
loop-host-preserved c =
    let names = names_in c.args.order.now.hosts.items in
    let counts = c.args.clock.now in
    let host = c.loop-host.host in
    elim c.if-clock-host-gt0.branch [
      | then-clock-host-gt0+in_ok-push w ↦
          let some : nat_eq (get_or counts host 0) 0 ≡ false = ne_eqb _ _ (λ none. omega (
            arith,
            none,
            w.if-clock-host-gt0.true,
          )) in
          let one : Bor (List ℕ) × Value Global = (w.name.result, Number w.as_str.result) in
          let items = ap (λ v. v.items) w.members-is ∙ w.in_ok-push.ensures.items in
          let view = ap members_view items ∙ view_members c.loop-host.members.items one in
          let digits : w.as_str.result.now ≡ decimal (get_or counts host 0) =
          w.as_str.ensures.value ∙ digits_at string_bytes c.args.digits.now counts host w.index-digits-host.result
          c.requires
          c.loop-host-test.true w.index-digits-host.is in
          let value = view_number w.as_str.result ∙ ap number digits in
          record {
            members = ap (λ l. joined l (members_from names (host + 1) (drop (host + 1) counts))) view
                ∙ pushed names counts host (map seen c.loop-host.members.items) (seen one) c.loop-host-test.true some
                w.name.ensures value c.loop-host.invariant.members;
            numbers = subst MembersHaveNumbers (sym view) (numbers_push (map seen c.loop-host.members.items) (seen one)
                c.loop-host.invariant.numbers (subst HasNumbers (sym value) (IsNumber-decimal (get_or counts host 0)
                (small (c.type_inv.clock host)))));
          }
      | else-clock-host-gt0 w ↦
          let none : nat_eq (get_or counts host 0) 0 ≡ true = eq-eqb _ _ (omega (arith, w.if-clock-host-gt0.false)) in
          let rest = next_passed names host counts c.loop-host-test.true none in
          let items = ap (λ v. members_view v.items) w.members-is in
          record {
            members = ap (λ l. joined l (members_from names (host + 1) (drop (host + 1) counts))) items
                ∙ ap (joined (members_view c.loop-host.members.items)) (sym rest) ∙ c.loop-host.invariant.members;
            numbers = subst MembersHaveNumbers (sym items) c.loop-host.invariant.numbers;
          }
    ]

pub returns-clause-value : goal.returns-clause-value
returns-clause-value c =
    let names = names_in c.args.order.now.hosts.items in
    let front = members_view c.loop-host.members.items in
    let whole : length c.args.clock.now ≡ c.loop-host.host = omega (
      arith,
      c.loop-host-test.false,
      c.loop-host.auto.host-end,
    ) in
    view-Object c.loop-host.members
    ∙ ap object (sym (all_counted names c.loop-host.host c.args.clock.now front whole) ∙ c.loop-host.invariant.members)
