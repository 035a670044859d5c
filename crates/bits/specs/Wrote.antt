-- Bytes written at a place of a lent buffer (01, "The numbers": a success writes its bytes and the rest stays). Assumes nothing.
use Rattle.std.specs.Prelude.{ℕ, ◌+◌, ◌≤◌, cond, List, ◌≡◌, leb, length}
use Rattle.std.proofs.lemmas.List.Edits.{sets}

-- a buffer with bytes put at a place; where they don't fit there, as it was
unfoldable pub put_at : List ℕ → ℕ → List ℕ → List ℕ
put_at buffer at bytes = cond (leb (at + length bytes) (length buffer)) (sets buffer at bytes) buffer

-- one writer of many: it answers the place behind its bytes, and they stand in the buffer if they fit. A buffer that is too short
-- keeps its length, so that writing into a short one counts
pub record Wrote (bytes : List ℕ) (at : ℕ) (before after : List ℕ) (next : ℕ) : Type 0 where
  pub answer : next ≡ at + length bytes
  pub long : length after ≡ length before
  pub stand : at + length bytes ≤ length before → after ≡ sets before at bytes
