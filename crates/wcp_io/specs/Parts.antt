-- How bytes that wait go to a line.
use Rattle.std.specs.Prelude.{◌≡◌, ◌≢◌, ℕ, ◌<◌, Bool, true, false, List, [], ◌∷◌, ◌++◌, All, length}
use Rattle.wcp_io.specs.Lines.{line_feed}
use Rattle.wcp_io.specs.Reader.{most_given}

-- No LF stands in the bytes.
abbrev pub HasNoFeed : List ℕ → Type 0
HasNoFeed bytes = All (λ byte. byte ≢ line_feed) bytes

-- What waits goes to the line, up to the first LF, which is taken, or as much as there is room for; where there is no
-- LF and room is left, all of it. The last place says whether the line is whole.
pub data Moves (waiting line waiting_after line_after : List ℕ) : Bool → Type 0 where
  ToFeed : (part : List ℕ) → HasNoFeed part → length line_after < most_given → line_after ≡ line ++ part
      → waiting ≡ part ++ line_feed ∷ waiting_after → Moves waiting line waiting_after line_after true
  ToCut : (part : List ℕ) → HasNoFeed part → length line_after ≡ most_given → line_after ≡ line ++ part
      → waiting ≡ part ++ waiting_after → Moves waiting line waiting_after line_after true
  Rest : HasNoFeed waiting → length line_after < most_given → line_after ≡ line ++ waiting → waiting_after ≡ []
      → Moves waiting line waiting_after line_after false
