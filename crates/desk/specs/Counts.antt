-- How many bytes stand at the front of a space.
use Rattle.std.specs.Prelude.{◌≡◌, ℕ, ◌≤◌, List, length, take, Result, Ok, Err}
use Rattle.desk.specs.declared.Cut.{Cut}
use Rattle.desk.specs.declared.Told.{Told}

-- the first n bytes are all there, and are n
abbrev pub IsPrefixLen : ℕ → List ℕ → Type 0
IsPrefixLen n xs = (n ≤ length xs) × (n ≡ length (take n xs))

-- how many bytes were read, before a read that failed too
abbrev pub read_bytes : Result ℕ Cut → ℕ
read_bytes (Ok n) = n
read_bytes (Err cut) = cut.bytes

-- how many bytes a space was filled with, in trouble too
abbrev pub filled_bytes : Result ℕ Told → ℕ
filled_bytes (Ok n) = n
filled_bytes (Err told) = told.bytes
