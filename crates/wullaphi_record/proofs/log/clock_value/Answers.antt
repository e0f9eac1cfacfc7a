use Rattle.std.proofs.Common.{◌≡◌, ◌∙◌, ◌+◌, ◌<◌, ◌^◌, ℕ, map, drop, length, get_or, ap, sym, subst, List, Global, Fits, w32, rules}
use Rattle.std.proofs.Common.{arith, string_bytes}
use Rattle.std.specs.Borrow.{Bor}
use Rattle.std.specs.Fmt.{decimal}
use Rattle.json.specs.Tree.{MembersHaveNumbers, HasNumbers}
use Rattle.json.specs.Json.{object, number}
use Rattle.json.specs.Value.{members_view}
use Rattle.json.proofs.Printed.Decimals.{IsNumber-decimal}
use Rattle.json.proofs.Trees.{view-Object}
use Rattle.json.specs.declared.value.Value.{Value}
use Rattle.json.specs.declared.value.Value.TheVariants.{Number}
use Rattle.trace_log.specs.Fields.{members_from}
use Rattle.wullaphi_record.specs.Recorded.{Recording}
use Rattle.wullaphi_record.specs.Logs.{fields_of}
use Rattle.wullaphi_record.proofs.ClockMembers.{joined, pushed, numbers_push, all_joined, seen}
use Rattle.wullaphi_record.proofs.ClockMembers.{view_number, view_members, digits_at}
use Rattle.wullaphi_record.proofs.log.clock_value.Goals as goal

small : {n : ℕ} → Fits w32 n → n < 2 ^ 64
small fits = search (rules, arith)

pub loop-place-preserved : goal.loop-place-preserved
loop-place-preserved c =
    let all = c.args.records.now in
    let numbers = c.args.numbers.now in
    let k = c.loop-place.place in
    let within : k < length numbers = omega (arith, c.requires.count, c.loop-place-test.true) in
    let one : Bor (List ℕ) × Value Global = (c.as_str.result, Number c.as_str-in-loop-place.result) in
    let items = c.in_ok-push.ensures.items in
    let view = ap members_view items ∙ view_members c.loop-place.members.items one in
    let digits : c.as_str-in-loop-place.result.now ≡ decimal (get_or numbers k 0) =
    c.as_str-in-loop-place.ensures.value ∙ digits_at string_bytes c.args.digits.now numbers k c.index-digits-place.result
    c.requires.digits within c.index-digits-place.is in
    let value = view_number c.as_str-in-loop-place.result ∙ ap number digits in
    let name = c.as_str.ensures.value ∙ ap (λ (r : Recording). r.name) (c.record.view_is ∙ c.index-records-place.is) in
    record {
      members = ap (λ l. joined l (members_from (fields_of (drop (k + 1) all) (drop (k + 1) numbers)))) view
          ∙ pushed all numbers k c.index-records-place.result (map seen c.loop-place.members.items) (seen one) c.loop-place-test.true within
          name value c.loop-place.invariant.members;
      numbers = subst MembersHaveNumbers (sym view) (numbers_push (map seen c.loop-place.members.items) (seen one)
          c.loop-place.invariant.numbers (subst HasNumbers (sym value) (IsNumber-decimal (get_or numbers k 0)
          (small (c.type_inv.numbers k)))));
    }

pub returns-clause-value : goal.returns-clause-value
returns-clause-value c =
    let front = members_view c.loop-place.members.items in
    view-Object c.loop-place.members
    ∙ ap object (sym (all_joined c.args.records.now c.args.numbers.now c.loop-place.place front (omega (
      arith,
      c.loop-place-test.false,
    )))
    ∙ c.loop-place.invariant.members)
