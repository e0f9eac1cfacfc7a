-- The name of a host, as a line of text shows it.
use Rattle.std.specs.Prelude.{ℕ, List, ◌++◌, codes, false, if◌then◌else◌, ◌==◌}
use Rattle.std.specs.Char.{encode_utf8, is_control}
use Rattle.std.specs.Fmt.{digits}
use Rattle.std.specs.List.{flat_map}
use Rattle.std.specs.Str.{chars}

-- A backslash, and the code of a character in hexadecimal digits.
abbrev pub shown_code : ℕ → List ℕ
shown_code code = codes "\\u{" ++ (digits 16 false code ++ codes "}")

-- A control character is escaped, and each other one stands as it is.
abbrev pub shown_char : ℕ → List ℕ
shown_char c = if is_control c
    then (if c == 10 then codes "\\n" else if c == 13 then codes "\\r" else if c == 9 then codes "\\t" else shown_code c)
    else encode_utf8 c

abbrev pub shown_name : List ℕ → List ℕ
shown_name name = flat_map shown_char (chars name)
