-- The late 7 (01, "The numbers"; 02, T-01): lines are taken exactly if each literal that they use is a constant or a variable defined in the
-- file, and refused at the first line of one that isn't. Assumes nothing.
use Prim.Native.Nat.{ℕ, zero, suc, ◌+◌, ◌<◌}
use native.Mathlib.Omega.{arith}
use native.Mathlib.Nat.{not-suc-le-zero, le_of_suc-le-suc}
use mathlib.Core.Bool.{Bool, true, false}
use mathlib.Core.List.{List, [], ◌∷◌, ◌++◌, map}
use mathlib.Core.Path.{◌≡◌, refl, sym, ap, ◌∙◌}
use lib.ListN.{length, get_or, replicate}
use Rattle.circuit.specs.Outcome.{Outcome, taken, refused, refuse_if}
use Rattle.text.specs.InList.{All, In}
use Rattle.text.specs.Kind.{Kind, an_input, used_by, used_by_all}
use Rattle.text.specs.Numbers.{not_defined}
use Rattle.text.specs.Rules.{any_unknown}
use Rattle.text.specs.Section.{used}
use Rattle.text.specs.Unknown.{Unknown}
use Rattle.text.specs.WellFormed.{Known}
use Rattle.text.proofs.Laws.LineFault.{any_unknown-says}
use Rattle.text.proofs.Laws.Outcome.{taken_is-not_refused, then_taken, refuse_none, refused_number, refused_place}
use Rattle.text.proofs.Laws.Rules.{all_known_of, all_known_is}

pub used-known : (defined : List ℕ) (place : ℕ) (ls : List (List ℕ)) → All (All (Known defined)) ls → used defined place ls ≡ taken tt
unfolding used refuse_if
used-known defined place [] a = refl
used-known defined place (l ∷ ls) a = rw (all_known_is defined l a.0) (used-known defined (suc place) ls a.1)

pub known-used : (defined : List ℕ) (place : ℕ) (ls : List (List ℕ)) (u : Unit {0}) → used defined place ls ≡ taken u → All (All (Known defined)) ls
unfolding used
known-used defined place [] u e = tt
known-used defined place (l ∷ ls) u e =
    let (v, here, there) = then_taken (refuse_if (any_unknown defined l) not_defined place) (used defined (suc place) ls) u e in
    (all_known_of defined l (refuse_none (any_unknown defined l) not_defined place v here), known-used defined (suc place) ls u there)

pub used-unknown : (defined : List ℕ) (start : ℕ) (ls : List (List ℕ)) (number place : ℕ) → used defined start ls ≡ refused number place
    → Unknown defined start ls number place
unfolding used refuse_if
used-unknown defined start [] number place e = absurd (taken_is-not_refused number place tt e)
used-unknown defined start (l ∷ ls) number place e = by (any_unknown defined l) refl (used-unknown defined (suc start) ls number place)
  where
    by : (u : Bool) → any_unknown defined l ≡ u → (used defined (suc start) ls ≡ refused number place → Unknown defined (suc start) ls number place)
        → Unknown defined start (l ∷ ls) number place
    by true f ih =
        let same : ◌≡◌ {A = Outcome (Unit {0})} (refused not_defined start) (refused number place) = (rw f at e) in
        let (literal, used, fault) = (any_unknown-says defined l).0 f in
        record {
          index = zero;
          within = omega arith;
          line = omega (arith, refused_place not_defined start number place same);
          before = λ j h. absurd (not-suc-le-zero h);
          literal = literal;
          used = used;
          fault = fault;
          seven = sym (refused_number not_defined start number place same);
        }
    by false f ih =
        let k : Unknown defined (suc start) ls number place = ih (rw f at e) in
        record {
          index = suc k.index;
          within = omega (arith, k.within);
          line = omega (arith, k.line);
          before = later k;
          literal = k.literal;
          used = k.used;
          fault = k.fault;
          seven = k.seven;
        }
      where
        later : (k : Unknown defined (suc start) ls number place) (j : ℕ) → j < suc k.index → All (Known defined) (get_or (l ∷ ls) j [])
        later k zero h = all_known_of defined l f
        later k (suc j) h = k.before j (le_of_suc-le-suc h)

pub unknown-used : (defined : List ℕ) (start : ℕ) (ls : List (List ℕ)) (number place : ℕ) → Unknown defined start ls number place
    → used defined start ls ≡ refused number place
unfolding used refuse_if
unknown-used defined start ls number place k = rw k.seven (go ls k.index start k.within k.line k.before k.used)
  where
    go : (ms : List (List ℕ)) (i s : ℕ) → i < length ms → place ≡ s + i → ((j : ℕ) → j < i → All (Known defined) (get_or ms j []))
        → In (get_or ms i []) k.literal → used defined s ms ≡ refused not_defined place
    go [] i s h l e f = absurd (not-suc-le-zero h)
    go (m ∷ ms) zero s h l e f =
        rw ((any_unknown-says defined m).1 (k.literal, f, k.fault)) (let here : s ≡ place = omega (arith, l) in λ x. refused not_defined (here x))
    go (m ∷ ms) (suc i) s h l e f =
        rw (all_known_is defined m (e zero (omega arith))) (go ms i (suc s) (le_of_suc-le-suc h) (omega (arith, l)) (λ j q. e (suc j) (omega (arith, q))) f)

-- what lines of one kind use, and lines of one kind before others
pub used-section : (k : Kind) (n : ℕ) (rows : List (List ℕ)) → length rows ≡ n → used_by_all (replicate n k) rows ≡ map (used_by k) rows
used-section k zero [] e = refl
used-section k zero (fs ∷ rows) e = absurd (omega (arith, e))
used-section k (suc n) [] e = absurd (omega (arith, e))
used-section k (suc n) (fs ∷ rows) e = ap {B = List (List ℕ)} (λ r. used_by k fs ∷ r) (used-section k n rows (omega (arith, e)))

pub used-join : (k : Kind) (js : List Kind) (n : ℕ) (rows more : List (List ℕ)) → length rows ≡ n
    → used_by_all (replicate n k ++ js) (rows ++ more) ≡ map (used_by k) rows ++ used_by_all js more
used-join k js zero [] more e = refl
used-join k js zero (fs ∷ rows) more e = absurd (omega (arith, e))
used-join k js (suc n) [] more e = absurd (omega (arith, e))
used-join k js (suc n) (fs ∷ rows) more e = ap {B = List (List ℕ)} (λ r. used_by k fs ∷ r) (used-join k js n rows more (omega (arith, e)))

-- inputs use nothing
pub used_inputs : (defined : List ℕ) (rows ls : List (List ℕ)) (n start : ℕ) → length rows ≡ n
    → used defined start (map (used_by an_input) rows ++ ls) ≡ used defined (start + n) ls
unfolding used refuse_if any_unknown
used_inputs defined [] ls n start e = ap (λ (at : ℕ). used defined at ls) (omega (arith, e))
used_inputs defined (fs ∷ rows) ls zero start e = absurd (omega (arith, e))
used_inputs defined (fs ∷ rows) ls (suc n) start e =
    let same : suc start + n ≡ start + suc n = omega arith in
    used_inputs defined rows ls n (suc start) (omega (arith, e)) ∙ ap (λ (at : ℕ). used defined at ls) same
