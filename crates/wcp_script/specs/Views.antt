-- What the values of the code stand for in a text: a line, the words of a line, the form of a step line, a head.
use Rattle.std.specs.Prelude.{◌≡◌, ℕ, ◌+◌, Bool, ◌≤◌, List, [], ◌∷◌, length, Option, None, Some, Ok}
use Rattle.std.specs.Borrow.{Bor}
use Rattle.wcp_script.specs.declared.lines.Line.{Line}
use Rattle.wcp_script.specs.declared.lines.Words.{Words}
use Rattle.wcp_script.specs.declared.lines.Words.TheVariants.{One, Two, Three, Four, More}
use Rattle.wcp_script.specs.declared.task_line.StepForm.{StepForm as Form}
use Rattle.wcp_script.specs.declared.task_line.StepForm.TheVariants as form
use Rattle.wcp_script.specs.declared.head.Head.{Head as OwnHead}
use Rattle.wcp_script.specs.declared.head.HeadRead.{HeadRead as OwnRead}
use Rattle.wcp_script.specs.Lines.{TextLine, lines_of, words_of}
use Rattle.wcp_script.specs.Judgement.{◌>>=◌, at_line}
use Rattle.wcp_script.specs.Head.{Head, HeadRead, head_line, with_line, head_by}
use Rattle.wcp_script.specs.WorkloadLines.{StepForm, Observes, Sends, Receives}

-- A line as a text has it.
abbrev pub seen_line : Line → TextLine
seen_line line = record { bytes = line.bytes.now; ended = line.ended }

-- These are the words; of more than four it's only known that they are more.
abbrev pub AreWords : List (List ℕ) → Words → Type 0
AreWords words (One first) = words ≡ first.now ∷ []
AreWords words (Two first second) = words ≡ first.now ∷ second.now ∷ []
AreWords words (Three first second third) = words ≡ first.now ∷ second.now ∷ third.now ∷ []
AreWords words (Four first second third fourth) = words ≡ first.now ∷ second.now ∷ third.now ∷ fourth.now ∷ []
AreWords words More = 5 ≤ length words

-- The words behind the first of a line, where there are some.
abbrev pub words_behind : Option (Bor (List ℕ)) → List (List ℕ)
words_behind None = []
words_behind (Some words) = words_of words.now

-- A form as a text has it.
abbrev pub seen_form : Form → StepForm
seen_form (form.Observe process holds) = Observes process.now holds
seen_form (form.Send process to) = Sends process.now to.now
seen_form (form.Recv process from) = Receives process.now from.now

-- A head as a text has it.
abbrev pub seen_head : OwnHead → Head
seen_head head = record {
  n = head.n;
  cap = head.cap;
  hold = head.hold;
  parents = head.parents.items;
  attach = head.attach.items;
  last_attached = head.last_attached;
  watched = head.watched;
  flag = head.flag;
}

-- The head ends before these lines, whatever it is.
abbrev pub EndsHead : (List ℕ → Bool) → List TextLine → Type 0
EndsHead is_step_word lines =
    (head : Head) (last : ℕ) → head_by is_step_word head last lines
    ≡ Ok (record { head = head; last = last; after = lines })

-- The head goes on with this line before those after it, whatever it is.
abbrev pub GoesOn : (List ℕ → Bool) → List TextLine → TextLine → List TextLine → Type 0
GoesOn is_step_word lines line after =
    (head : Head) (last : ℕ) → head_by is_step_word head last lines
    ≡ (at_line (last + 1) (head_line head line) >>= λ said. head_by is_step_word (with_line head said) (last + 1) after)

-- A head that was read, and the lines after it.
abbrev pub seen_read : OwnRead → HeadRead
seen_read read = record { head = seen_head read.head; last = read.last; after = lines_of read.after.now }
