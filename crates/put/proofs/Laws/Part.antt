-- A part of a buffer with a text copied to its front, put back, is the buffer with the text at the part's place; so is a part that the text
-- fills. Assumes nothing.
use Prim.Native.Nat.{ℕ, ◌+◌, ◌<◌, ◌≤◌}
use native.Mathlib.Omega.{arith}
use mathlib.Core.List.{List, ◌++◌, append_assoc}
use mathlib.Core.Path.{◌≡◌, sym, ap, ap₂, ◌∙◌}
use lib.ListN.{length, take, drop, length-take, length-drop, take-append-drop}
use lib.Seq.{sets, sets-eq, take-length, drop-append-le, drop-drop}
use borrow.Rule.Slice.PartMut.{put_mid}
use Rattle.bits.specs.Wrote.{put_at}
use Rattle.bits.proofs.Laws.Wrote.{put-fits, put_refused}

module _ (buffer : List ℕ) (at k : ℕ) (text : List ℕ) (fits : at + length text ≤ length buffer) (room : length text ≤ k) where
  rest : drop (length text) (take k (drop at buffer)) ++ drop k (drop at buffer) ≡ drop (at + length text) buffer
  rest =
      sym (drop-append-le (length text) (take k (drop at buffer)) (drop k (drop at buffer)) (simp (length-take, length-drop) (omega arith)))
      ∙ ap (drop (length text)) (take-append-drop k (drop at buffer))
      ∙ drop-drop (length text) at buffer

  pub put-part : take at buffer ++ ((take (length text) text ++ drop (length text) (take k (drop at buffer))) ++ drop k (drop at buffer)) ≡ sets buffer at text
  put-part =
      ap (λ (l : List ℕ). take at buffer ++ l)
      (append_assoc (take (length text) text) (drop (length text) (take k (drop at buffer))) (drop k (drop at buffer))
      ∙ ap₂ {C = List ℕ} (λ xs ys. xs ++ ys) (take-length text) rest)
      ∙ sym (append_assoc (take at buffer) text (drop (at + length text) buffer))
      ∙ sym (sets-eq text buffer at fits)

pub put_whole : (buffer : List ℕ) (at : ℕ) (text : List ℕ) → at + length text ≤ length buffer → (k : ℕ) → k ≡ length text
    → put_mid at k buffer text ≡ sets buffer at text
put_whole buffer at text fits k e =
    ap (λ (l : List ℕ). take at buffer ++ (text ++ l)) (ap (λ (m : ℕ). drop m (drop at buffer)) e ∙ drop-drop (length text) at buffer)
    ∙ sym (append_assoc (take at buffer) text (drop (at + length text) buffer))
    ∙ sym (sets-eq text buffer at fits)

-- where a text fits it stands at its place, and else the buffer is as before
pub part-put : (buffer : List ℕ) (at k : ℕ) (text after : List ℕ) → at + length text ≤ length buffer → k ≡ length text → after ≡ text
    → put_mid at k buffer after ≡ put_at buffer at text
part-put buffer at k text after fits e same = ap (put_mid at k buffer) same ∙ put_whole buffer at text fits k e ∙ sym (put-fits buffer at text fits)

pub none-put : (buffer : List ℕ) (at : ℕ) (text : List ℕ) → length buffer < at + length text → buffer ≡ put_at buffer at text
none-put buffer at text h = sym (put_refused buffer at text h)

pub ruleset puts = (part-put, none-put)
