-- The attack record (01, "The certificate", kind 4): per state three bytes: rank (two, little-endian) and attack. Assumes nothing.
use Rattle.std.specs.Prelude.{ℕ, ◌+◌, ◌*◌, ◌%◌, ◌^◌, get_or}
use mathlib.Core.List.{List, [], ◌∷◌, ◌++◌, flat_map}
use Rattle.below.specs.Table.{table}
use Rattle.bits.specs.Digits.{digits, sum}

unfoldable pub attack_length : ℕ → ℕ
attack_length L = 3 * 2 ^ L

-- the stored rank and attack; bits of the state above L aren't read; bytes that aren't there count as 0
unfoldable pub stored_rank : List ℕ → (L state : ℕ) → ℕ
stored_rank bytes L s = sum 256 (get_or bytes (3 * (s % 2 ^ L)) 0 ∷ get_or bytes (3 * (s % 2 ^ L) + 1) 0 ∷ [])

unfoldable pub stored_attack : List ℕ → (L state : ℕ) → ℕ
stored_attack bytes L s = get_or bytes (3 * (s % 2 ^ L) + 2) 0

-- the bytes that store ranks and attacks
unfoldable pub attack_bytes : (ranks attacks : ℕ → ℕ) → ℕ → List ℕ
attack_bytes ranks attacks L = flat_map (λ s. digits 256 2 (ranks s) ++ (attacks s ∷ [])) (table (λ s. s) (2 ^ L))
