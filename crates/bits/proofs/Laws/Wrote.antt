-- Writing one text and then another is writing both, and what a buffer holds afterwards. Assumes nothing.
use Prim.Native.Nat.{ℕ, suc, ◌+◌, ◌<◌, ◌≤◌}
use native.Mathlib.Omega.{arith}
use native.Mathlib.Nat.{add-zero, zero-add}
use native.Mathlib.Decide.{dec_le}
use mathlib.Core.List.{List, [], ◌∷◌, ◌++◌}
use mathlib.Core.Path.{◌≡◌, refl, sym, ap, ◌∙◌}
use lib.ListN.{length, drop, set, length-set, length-append}
use lib.Seq.{sets, sets-eq, length-sets, set_comm}
use borrow.Author.Tests.{le-leb, lt-leb}
use Rattle.bits.specs.Wrote.{Wrote, put_at}

pub sets_append : (l : List ℕ) (i : ℕ) (vs ws : List ℕ) → sets l i (vs ++ ws) ≡ sets (sets l i vs) (i + length vs) ws
sets_append l i [] ws = rw add-zero
sets_append l i (v ∷ vs) ws = sets_append (set l i v) (suc i) vs ws ∙ ap (λ (k : ℕ). sets (sets (set l i v) (suc i) vs) k ws) (omega arith)

-- what is stored behind the texts may be stored before them
pub sets-set_past : (l : List ℕ) (i : ℕ) (vs : List ℕ) (j : ℕ) (b : ℕ) → i + length vs ≤ j → set (sets l i vs) j b ≡ sets (set l j b) i vs
sets-set_past l i [] j b h = refl
sets-set_past l i (v ∷ vs) j b h =
    sets-set_past (set l i v) (suc i) vs j b (omega arith)
    ∙ ap (λ (k : List ℕ). sets k (suc i) vs) (set_comm l i j v b (λ e. omega arith))

pub sets_front : (l vs : List ℕ) → length vs ≤ length l → sets l 0 vs ≡ vs ++ drop (length vs) l
sets_front l vs h = sets-eq vs l 0 (omega arith) ∙ ap (λ (k : ℕ). vs ++ drop k l) (zero-add (length vs))

pub put-fits : (buffer : List ℕ) (at : ℕ) (bytes : List ℕ) → at + length bytes ≤ length buffer → put_at buffer at bytes ≡ sets buffer at bytes
unfolding put_at
put-fits buffer at bytes h = rw (le-leb _ _ h)

pub put_refused : (buffer : List ℕ) (at : ℕ) (bytes : List ℕ) → length buffer < at + length bytes → put_at buffer at bytes ≡ buffer
unfolding put_at
put_refused buffer at bytes h = rw (lt-leb _ _ h)

pub wrote_nothing : (at : ℕ) (buffer : List ℕ) → Wrote [] at buffer buffer at
wrote_nothing at buffer = record { answer = omega arith; long = refl; stand = λ h. refl }

pub length-put : (buffer : List ℕ) (at : ℕ) (bytes : List ℕ) → length (put_at buffer at bytes) ≡ length buffer
length-put buffer at bytes = elim (dec_le (at + length bytes) (length buffer)) [ yes h ↦ fits h | no h ↦ ap length (put_refused buffer at bytes (omega arith)) ]
  where
    fits : at + length bytes ≤ length buffer → length (put_at buffer at bytes) ≡ length buffer
    fits h = ap length (put-fits buffer at bytes h) ∙ length-sets buffer at bytes

-- what puts bytes at a place
pub wrote_put : {bytes before after : List ℕ} {at next : ℕ} → next ≡ at + length bytes → after ≡ put_at before at bytes → Wrote bytes at before after next
wrote_put {bytes} {before} {after} {at} n e =
    record { answer = n; long = ap length e ∙ length-put before at bytes; stand = λ h. e ∙ put-fits before at bytes h }

-- one byte: where it fits it is stored, and else the buffer stays
pub wrote_byte : (b at : ℕ) (buffer : List ℕ) → Wrote (b ∷ []) at buffer (set buffer at b) (at + 1)
wrote_byte b at buffer = record { answer = refl; long = length-set buffer at b; stand = λ h. refl }

pub wrote_past : (b at : ℕ) (buffer : List ℕ) → length buffer ≤ at → Wrote (b ∷ []) at buffer buffer (at + 1)
wrote_past b at buffer h = record { answer = refl; long = refl; stand = λ f. absurd (omega arith) }

-- a text and then another
pub wrote_both : {xs ys : List ℕ} {at mid next : ℕ} {before between after : List ℕ}
    → Wrote xs at before between mid → Wrote ys mid between after next → Wrote (xs ++ ys) at before after next
wrote_both {xs} {ys} {at} {mid} {next} {before} {between} {after} w v =
    record {
      answer = omega (arith, w.answer, v.answer, length-append xs ys);
      long = v.long ∙ w.long;
      stand = λ h. both (omega (arith, length-append xs ys)) (omega (arith, length-append xs ys, w.answer, w.long));
    }
  where
    both : at + length xs ≤ length before → mid + length ys ≤ length between → after ≡ sets before at (xs ++ ys)
    both f g =
        v.stand g
        ∙ ap (λ (l : List ℕ). sets l mid ys) (w.stand f)
        ∙ ap (λ (k : ℕ). sets (sets before at xs) k ys) w.answer
        ∙ sym (sets_append before at xs ys)
