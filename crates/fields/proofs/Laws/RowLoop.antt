-- The numbers of a line one after the other: what is left of the line equals the whole, whatever count of numbers is wanted. Assumes nothing.
use Prim.Native.Nat.{ℕ, zero, suc, ◌+◌, ◌-◌, ◌<◌, ◌≤◌}
use native.Mathlib.Numerals.{add-one}
use native.Mathlib.Omega.{arith}
use native.Mathlib.Nat.{zero-add}
use native.Mathlib.Decide.{dec_lt, ℕ_discrete}
use mathlib.Core.List.{List, [], ◌∷◌, ◌++◌, append_assoc}
use mathlib.Core.Option.{Option, none, some}
use mathlib.Core.Path.{◌≡◌, refl, sym, ap, ◌∙◌}
use lib.ListN.{length, get_or, take, drop, set, length-set}
use lib.Seq.{take-suc-set, get_or-set_other}
use Rattle.fields.specs.Inner.RowAt.{MoreAt, LastAt, NoneAt, IsRow}
use Rattle.text.specs.Line.{fields, prepend, separators, numbers_of}

-- what is found, behind the numbers read so far
unfoldable pub behind : List ℕ → Option (List ℕ) → Option (List ℕ)
behind front none = none
behind front (some rest) = some (front ++ rest)

behind-prepend : (front : List ℕ) (v : ℕ) (o : Option (List ℕ)) → behind front (prepend v o) ≡ behind (front ++ (v ∷ [])) o
unfolding behind prepend
behind-prepend front v none = refl
behind-prepend front v (some rest) = ap some (sym (append_assoc front (v ∷ []) rest))

behind-nothing : (o : Option (List ℕ)) → o ≡ behind [] o
unfolding behind
behind-nothing none = refl
behind-nothing (some rest) = refl

-- k numbers were read, up to a place
pub record Reading (s : List ℕ) (at i k : ℕ) (numbers : List ℕ) : Type 0 where
  pub fewer : (n : ℕ) → 1 ≤ n → n ≤ k → numbers_of n (drop at s) ≡ none
  pub left : (n : ℕ) → numbers_of (k + suc n) (drop at s) ≡ behind (take k numbers) (fields (separators (suc n)) (drop i s))
  pub most : k ≤ 5
  pub long : length numbers ≡ 5
  pub others : (j : ℕ) → k ≤ j → get_or numbers j 0 ≡ 0

pub reading_starts : (s : List ℕ) (at : ℕ) → Reading s at at 0 (0 ∷ 0 ∷ 0 ∷ 0 ∷ 0 ∷ [])
unfolding numbers_of
reading_starts s at =
    record {
      fewer = λ n l h. absurd (omega arith);
      left = λ n. ap (λ (m : ℕ). fields (separators m) (drop at s)) (zero-add (suc n)) ∙ behind-nothing (fields (separators (suc n)) (drop at s));
      most = omega arith;
      long = refl;
      others = λ j h. zeros j;
    }
  where
    zeros : (j : ℕ) → ◌≡◌ {A = ℕ} (get_or (0 ∷ 0 ∷ 0 ∷ 0 ∷ 0 ∷ []) j 0) 0
    zeros zero = refl
    zeros (suc zero) = refl
    zeros (suc (suc zero)) = refl
    zeros (suc (suc (suc zero))) = refl
    zeros (suc (suc (suc (suc zero)))) = refl
    zeros (suc (suc (suc (suc (suc j))))) = refl

module _ (s : List ℕ) (at i k : ℕ) (numbers : List ℕ) (w : Reading s at i k numbers) where
  -- the next number but one and those behind it
  further : (n : ℕ) → fields (32 ∷ separators (suc n)) (drop i s) ≡ none → numbers_of (k + suc (suc n)) (drop at s) ≡ none
  unfolding separators behind
  further n e = w.left (suc n) ∙ rw e

  next : fields (10 ∷ []) (drop i s) ≡ none → numbers_of (k + 1) (drop at s) ≡ none
  unfolding separators behind
  next e = w.left 0 ∙ rw e

  -- a count of numbers beyond those read is one more, or two or more
  beyond : (n : ℕ) → k < n → (n ≡ k + 1 → numbers_of n (drop at s) ≡ none) → ((m : ℕ) → n ≡ k + suc (suc m) → numbers_of n (drop at s) ≡ none)
      → numbers_of n (drop at s) ≡ none
  beyond n l one more = elim (ℕ_discrete n (k + 1)) [ yes e ↦ one e | no d ↦ more (n - (k + 2)) (omega arith) ]

  pub reading_fails : NoneAt s i → (n : ℕ) → 1 ≤ n → n ≤ 5 → numbers_of n (drop at s) ≡ none
  reading_fails f n l h =
      elim (dec_lt k n) [
        | no a ↦ w.fewer n l (omega arith)
        | yes a ↦ beyond n a (λ e. rw e (next f.last)) (λ m e. rw e (further m (f.more (separators (suc m)))))
      ]

  pub reading_too_many : 5 ≤ k → (n : ℕ) → 1 ≤ n → n ≤ 5 → numbers_of n (drop at s) ≡ none
  reading_too_many h n l m = w.fewer n l (omega arith)

  module _ (room : k < 5) (v : ℕ) where
    fits : k < length numbers
    fits = omega (arith, w.long)

    others_set : (j : ℕ) → suc k ≤ j → get_or (set numbers k v) j 0 ≡ 0
    others_set j h = get_or-set_other numbers k j v 0 (λ e. omega arith) ∙ w.others j (omega arith)

    one_more : (n : ℕ) → suc k + suc n ≡ k + suc (suc n)
    one_more n = omega arith

    pub reading_goes_on : (i' : ℕ) → MoreAt s i v i' → Reading s at i' (k + 1) (set numbers k v)
    unfolding separators
    reading_goes_on i' f =
        rw (add-one k)
        (record {
          fewer = λ n l h. elim (dec_lt k n) [
            | no a ↦ w.fewer n l (omega arith)
            | yes a ↦ beyond n a (λ e. rw e (next f.last))
                (λ m e. absurd (omega arith))
          ];
          left =
              λ n.
              ap (λ (m : ℕ). numbers_of m (drop at s)) (one_more n)
              ∙ w.left (suc n)
              ∙ ap (behind (take k numbers)) (f.more (separators (suc n)))
              ∙ behind-prepend (take k numbers) v (fields (separators (suc n)) (drop i' s))
              ∙ ap (λ (front : List ℕ). behind front (fields (separators (suc n)) (drop i' s))) (sym (take-suc-set numbers k v fits));
          most = omega arith;
          long = length-set numbers k v ∙ w.long;
          others = others_set;
        })

    pub reading_ends : LastAt s i v → IsRow s at (k + 1) (set numbers k v)
    unfolding separators behind
    reading_ends f =
        record {
          least = omega arith;
          most = omega arith;
          five = length-set numbers k v ∙ w.long;
          is = w.left 0 ∙ ap (behind (take k numbers)) f.last ∙ ap some (sym (take-suc-set numbers k v fits)
              ∙ ap (λ (m : ℕ). take m (set numbers k v)) (sym (add-one k)));
          only = λ n l d. elim (dec_lt k n) [
            | no a ↦ w.fewer n l (omega arith)
            | yes a ↦ beyond n a (λ e. absurd (d e))
                (λ m e. rw e (further m (f.more (separators (suc m)))))
          ];
          others = λ j h. others_set j (omega arith);
        }
