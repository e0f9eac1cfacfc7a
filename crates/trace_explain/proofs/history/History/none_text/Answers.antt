use Rattle.std.proofs.Common.{◌≡◌, ◌++◌, ◌==◌, length, false, List, ℕ, codes, ◌∙◌, append_assoc, ap, sym}
use Rattle.std.specs.Prelude.{string_bytes}
use Rattle.std.specs.List.{flat_map}
use Rattle.trace_explain.specs.Texts.{name_at, over_line}
use Rattle.trace_explain.specs.Views.{watched_by}
use Rattle.trace_explain.proofs.Printing.{none_lines-some}
use Rattle.trace_explain.proofs.history.History.none_text.Goals as goal

in_one : (before name behind lines : List ℕ) → (before ++ (name ++ behind)) ++ lines
    ≡ before ++ (name ++ (behind ++ lines))
in_one before name behind lines = simp append_assoc

pub returns : goal.returns
returns c =
    let watched = watched_by c.args.self.now in
    let lines = flat_map (over_line watched c.args.place) c.args.over.now in
    let name = string_bytes c.in_ok-name.name in
    let all : string_bytes c.push_each_over.new.text ≡ string_bytes c.writeln-2.new.self ++ lines =
    c.in_ok-push_each_over.ensures in
    let head : string_bytes c.writeln-2.new.self ≡ codes "no state of " ++ (name ++ codes " is left\n") =
    c.in_ok-writeln-2.ensures.bytes
    ∙ ap (λ (text : List ℕ). text ++ (codes "no state of " ++ (name ++ codes " is left\n"))) c.new-text.ensures.bytes in
    let named : name ≡ name_at watched c.args.place = c.in_ok-name.ensures in
    let some : (length c.args.over.now == 0) ≡ false = sym c.is_empty.ensures ∙ c.if-is_empty.false in
    all ∙ ap (λ (text : List ℕ). text ++ lines) head
    ∙ in_one (codes "no state of ") name (codes " is left\n") lines
    ∙ ap (λ (host : List ℕ). codes "no state of " ++ (host ++ (codes " is left\n" ++ lines))) named
    ∙ sym (none_lines-some watched c.args.place c.args.over.now some)
