use Rattle.std.proofs.Common.{◌≡◌, ◌∙◌, ℕ, Option, Some, true, ap, subst, sym}
use Rattle.trace_log.specs.declared.turn.Form.{Form}
use Rattle.trace_spelling.specs.Spellings.{HasParser}
use Rattle.trace_cli.specs.declared.spelling.LogSpelling.{LogSpelling}
use Rattle.trace_cli.specs.declared.spelling.LogSpelling.TheVariants as by
use Rattle.trace_words.specs.Spelled.{name_members}
use Rattle.trace_cli.proofs.spelling.LogSpelling.spelled_by.Goals as goal

pub returns-in-Some : goal.returns-in-Some
returns-in-Some c =
    let words = c.args.words.now in
    let spelling = c.in_ok-spelling.spelling in
    rw c.in-Some.is (
      spelling,
      subst (λ (lines : Option ℕ). HasParser c.in-Some.parser.now lines words.skips spelling)
          c.lines_of_an_event-lines.ensures c.in_ok-spelling.ensures,
      ap (λ (form : Form). let said : Option LogSpelling = Some (by.Spelled spelling form) in said) c.lines_by.ensures,
    )

pub returns-then-name_members : goal.returns-then-name_members
returns-then-name_members c =
    let words = c.args.words.now in
    let spelling = c.in_ok-spelling-2.spelling in
    let members : name_members words ≡ true = sym c.name_members.ensures ∙ c.if-name_members.true in
    rw (c.in_default.is, members) (
      spelling,
      rw (c.name_said.ensures, c.name_said-then-name_members.ensures, c.name_said-then-name_members-2.ensures) at c.in_ok-spelling-2.ensures,
      ap (λ (form : Form). let said : Option LogSpelling = Some (by.Spelled spelling form) in said) c.lines_by-then-name_members.ensures,
    )
