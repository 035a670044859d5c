-- Bytes that were put at the front of a buffer with room for them. Assumes nothing.
use Rattle.std.proofs.Common.{ℕ, ◌≤◌, List, ◌≡◌, ◌∙◌, ap, sym, refl, length, take, drop, arith}
use lib.Seq.{take_at}
use Rattle.std.proofs.lemmas.List.{take_all}
use Rattle.bits.specs.Wrote.{put_at}
use Rattle.bits.proofs.Laws.Wrote.{put-fits, sets_front, length-put}

-- so many stand at its front as are counted
pub counted_put :
    (buffer : List ℕ) {bytes after : List ℕ} {n : ℕ} → n ≡ length bytes → after ≡ put_at buffer 0 bytes → length bytes ≤ length buffer → take n after ≡ bytes
counted_put buffer {bytes} e f h =
    (λ i. take (e i) (f i))
    ∙ ap (take (length bytes)) (put-fits buffer 0 bytes (omega arith) ∙ sets_front buffer bytes h)
    ∙ take_at bytes (drop (length bytes) buffer) (length bytes) refl

-- and nothing behind them, if there is no more room
pub whole_put : (buffer bytes : List ℕ) → length bytes ≡ length buffer → put_at buffer 0 bytes ≡ bytes
whole_put buffer bytes e =
    sym (take_all (length bytes) (put_at buffer 0 bytes) (omega (arith, length-put buffer 0 bytes)))
    ∙ counted_put buffer {bytes = bytes} refl refl (omega arith)
