-- Adding one text and then another is adding both. Assumes nothing.
use Prim.Native.Nat.{ℕ, ◌+◌, ◌≤◌, min}
use native.Mathlib.Omega.{arith}
use native.Mathlib.Numerals.{add-one}
use mathlib.Core.List.{List, [], ◌++◌}
use mathlib.Core.Path.{◌≡◌, refl, sym, ap, ◌∙◌}
use lib.ListN.{length, length-append}
use lib.Seq.{sets}
use Rattle.bits.specs.InTurn.{in_turn}
use Rattle.bits.specs.Wrote.{put_at}
use Rattle.bits.proofs.Laws.Wrote.{sets_append, put-fits, length-put}
use Rattle.page.specs.declared.Page.{Page}
use Rattle.page.specs.Added.{Added, last_place}

pub added_put :
    (text : List ℕ) (old new : Page) (n : ℕ) → new.out.ghost_name ≡ old.out.ghost_name → n ≡ length text → new.at ≡ min (old.at + n) last_place
    → new.out.now ≡ put_at old.out.now old.at text → Added text old new
added_put text old new n s l c e =
    record {
      same = s;
      long = ap length e ∙ length-put old.out.now old.at text;
      count = λ h. omega (arith, l, c);
      stand = λ h. e ∙ put-fits old.out.now old.at text (omega (arith, h));
    }

pub added_nothing : (page : Page) → Added [] page page
added_nothing page = record { same = refl; long = refl; count = λ h. omega (arith, h); stand = λ h. refl }

pub added_both : {xs ys : List ℕ} {old mid new : Page} → Added xs old mid → Added ys mid new → Added (xs ++ ys) old new
added_both {xs} {ys} {old} {mid} {new} w v =
    record {
      same = v.same ∙ w.same;
      long = v.long ∙ w.long;
      count = λ h. omega (arith, w.count h, v.count (omega (arith, w.count h)), length-append xs ys);
      stand = λ h. both (omega (arith, h, length-append xs ys)) (omega (arith, h, length-append xs ys, w.count (omega (arith, h)), w.long))
          (omega (arith, h, length-append xs ys, w.count (omega (arith, h))));
    }
  where
    both :
        old.at + length xs ≤ min (length old.out.now) last_place → mid.at + length ys ≤ min (length mid.out.now) last_place → mid.at ≡ old.at + length xs
        → new.out.now ≡ sets old.out.now old.at (xs ++ ys)
    both f g place =
        v.stand g
        ∙ ap (λ (l : List ℕ). sets l mid.at ys) (w.stand f)
        ∙ ap (λ (k : ℕ). sets (sets old.out.now old.at xs) k ys) place
        ∙ sym (sets_append old.out.now old.at xs ys)

-- texts one behind the other: before the first, and after one more
pub added_none : (f : ℕ → List ℕ) (page : Page) → Added (in_turn f 0) page page
unfolding in_turn
added_none f page = added_nothing page

pub added_turn : (f : ℕ → List ℕ) (i : ℕ) {old mid new : Page} → Added (in_turn f i) old mid → Added (f i) mid new → Added (in_turn f (i + 1)) old new
unfolding in_turn
added_turn f i w v = rw add-one (added_both w v)
