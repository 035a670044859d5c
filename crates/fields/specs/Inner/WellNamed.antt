-- What stands behind the position of a symbol line (01, "The file", rule 5). Assumes nothing.
use Rattle.std.specs.Prelude.{ℕ, suc, Bool, ◌&&◌, List, [], ◌∷◌, eqb, length, get_or, drop}
use Rattle.bits.specs.Bytes.{same_bytes}
use Rattle.text.specs.Number.{run}
use Rattle.text.specs.Symbol.{is_name_byte, is_name}

-- a space, a name and byte 10
unfoldable pub well_named : List ℕ → Bool
well_named text =
    let name = run is_name_byte (drop 1 text) in
    eqb (get_or text 0 0) 32 && same_bytes (drop (suc (length name)) text) (10 ∷ []) && is_name name
