-- The questions of a file that are asked.
use Rattle.std.proofs.Common.{◌≡◌, ◌∙◌, ℕ, ◌<◌, suc, zero, List, [], ◌∷◌, Some, None, Result, Ok, Err, Vec, Global}
use Rattle.std.proofs.Common.{IfOk, IfSome, length, sym, subst, ap, arith, get_or}
use Rattle.std.specs.Prelude.{OnErr}
use Rattle.std.specs.Io.KnownBytes.{Keeps}
use Rattle.std.proofs.KnownBytes.{Keeps-refl}
use Rattle.std.proofs.lemmas.List.{get_or_default}
use Rattle.std.specs.Borrow.{Bor}
use Rattle.std.specs.List.{All}
use Rattle.trace_asking.specs.declared.question.Question.{Question}
use Rattle.trace_questions.specs.Questions.{AreQuestionsOf}
use Rattle.trace_words.specs.declared.options.Options.{Options}
use Rattle.trace_cli.specs.declared.fault.TraceFault.{TraceFault}
use Rattle.trace_cli.specs.Questions.{ArePicked, IsNamed, IsPicked}
use Rattle.trace_cli.specs.Requested.{Known}

-- What is so of an element is so of each one of a list of it alone.
pub all_alone : (P : Question → Type 0) (one : Question) (questions : List Question) → questions ≡ one ∷ [] → P one
    → All P questions
all_alone P one questions same is = rw same each
  where
    each : All P (one ∷ [])
    each zero d within = is
    each (suc k) d within = absurd (omega (arith, within))

-- What is so of each element is so of the one at a place, and of one alone.
pub of_each : (P : Question → Type 0) (all : List Question) (place : ℕ) (one : Question) → All P all
    → place < length all → one ≡ get_or all place one → P one
of_each P all place one each within is = subst P (sym is) (each place one within)

pub of_alone : (P : Question → Type 0) (one : Question) (questions : List Question) → questions ≡ one ∷ []
    → All P questions → P one
of_alone P one questions same each =
    let alone : All P (one ∷ []) = subst (All P) same each in alone 0 one (omega arith)

-- Nothing was written where a call ends with a fault.
pub kept : {A E : Type 0} (result : Result A E) (known : Known) → OnErr result (Keeps known known)
kept (Ok value) known = tt
kept (Err fault) known = Keeps-refl known

-- One question is picked by its name.
pub picks_named : (said : Bor (List ℕ)) (options : Options) (all picked : List Question) (place : ℕ) (one : Question)
    → options.question ≡ Some said → IsNamed all said.now place → one ≡ get_or all place one → picked ≡ one ∷ []
    → IsPicked options.question all picked
picks_named said options all picked place one asked named is alone =
    let same : one ≡ named.question = is ∙ get_or_default all place one named.question named.within ∙ sym named.is in
    rw asked (place, named, alone ∙ ap (λ (question : Question). question ∷ []) same)

-- Of what a file asks some is picked.
pub picked_of : (options : Options) (file : Known) (all : List Question) (result : Result (Vec Question Global) TraceFault)
    → IfSome file (λ text. AreQuestionsOf text all) → IfOk result (λ picked. IsPicked options.question all picked.items)
    → IfOk result (λ picked. IfSome file (λ text. ArePicked options text picked.items))
picked_of options None all (Ok picked) read picks = tt
picked_of options (Some text) all (Ok picked) read picks = record { all = all; read = read; picks = picks }
picked_of options file all (Err fault) read picks = tt
