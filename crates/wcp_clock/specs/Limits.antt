use Rattle.std.specs.Prelude.{ℕ}

-- The limits of the product, each as a number; contracts speak of these, and the constants of the code are held to
-- them.

-- A computation has 1 to 16 processes.
abbrev pub most_processes : ℕ
most_processes = 16

-- A process has at most 4,294,967,294 communication events, so its number of intervals fits in 32 bits.
abbrev pub most_events : ℕ
most_events = 4294967294

-- A link or an inbox has room for 1 to 1,024 items.
abbrev pub most_cap : ℕ
most_cap = 1024

-- A relay's hold has room for 1 to 64 items.
abbrev pub most_hold : ℕ
most_hold = 64

-- A tree has 1 to 15 relays.
abbrev pub most_relays : ℕ
most_relays = 15

-- A path from a process to the root goes over at most 8 relays.
abbrev pub most_path : ℕ
most_path = 8

-- A text has at most 65,536 steps.
abbrev pub most_steps : ℕ
most_steps = 65536

-- A lane has room for 1 to 65,536 messages.
abbrev pub most_lane : ℕ
most_lane = 65536

-- A count of the snapshots of a process is at most 4,294,967,296.
abbrev pub most_snapshots : ℕ
most_snapshots = 4294967296

-- A worker gives up once a gate has held it back 50,000,000 times in a row.
abbrev pub most_gate_turns : ℕ
most_gate_turns = 50000000
