-- The bytes that a text begins with and that pass a test: each of them passes, the next doesn't, and they come back from what they are put
-- in front of. Assumes nothing.
use Prim.Native.Nat.{ℕ}
use mathlib.Core.Bool.{Bool, true, false}
use mathlib.Core.List.{List, [], ◌∷◌, ◌++◌}
use mathlib.Core.Path.{◌≡◌, refl, ap}
use lib.ListN.{length, get_or, drop}
use Rattle.text.specs.Number.{run}

-- each byte passes
abbrev pub Each : (ℕ → Bool) → List ℕ → Type 0
Each p [] = Unit {0}
Each p (b ∷ t) = (p b ≡ true) × Each p t

pub each_append : (p : ℕ → Bool) (s t : List ℕ) → Each p s → Each p t → Each p (s ++ t)
each_append p [] t a b = b
each_append p (x ∷ s) t a b = (a.0, each_append p s t a.1 b)

-- what a text's run is: nothing where the first byte fails, else one byte more
data Ran (p : ℕ → Bool) (b : ℕ) (t : List ℕ) : Type 0 where
  goes : p b ≡ true → run p (b ∷ t) ≡ b ∷ run p t → Ran p b t
  stops : p b ≡ false → run p (b ∷ t) ≡ [] → Ran p b t

ran : (p : ℕ → Bool) (b : ℕ) (t : List ℕ) → Ran p b t
unfolding run
ran p b t = by (p b) refl
  where
    by : (u : Bool) → p b ≡ u → Ran p b t
    by true e = goes e (rw e)
    by false e = stops e (rw e)

pub run_each : (p : ℕ → Bool) (t : List ℕ) → Each p (run p t)
unfolding run
run_each p [] = tt
run_each p (b ∷ t) = by (ran p b t) (run_each p t)
  where
    by : Ran p b t → Each p (run p t) → Each p (run p (b ∷ t))
    by (goes e q) ih = rw q (e, ih)
    by (stops e q) ih = rw q tt

pub run_splits : (p : ℕ → Bool) (t : List ℕ) → t ≡ run p t ++ drop (length (run p t)) t
unfolding run
run_splits p [] = refl
run_splits p (b ∷ t) = by (ran p b t) (run_splits p t)
  where
    by : Ran p b t → t ≡ run p t ++ drop (length (run p t)) t → b ∷ t ≡ run p (b ∷ t) ++ drop (length (run p (b ∷ t))) (b ∷ t)
    by (goes e q) ih = rw q (ap {B = List ℕ} (λ r. b ∷ r) ih)
    by (stops e q) ih = rw q

pub run_stops : (p : ℕ → Bool) (t : List ℕ) → p 0 ≡ false → p (get_or (drop (length (run p t)) t) 0 0) ≡ false
unfolding run
run_stops p [] z = z
run_stops p (b ∷ t) z = by (ran p b t) (run_stops p t z)
  where
    by : Ran p b t → p (get_or (drop (length (run p t)) t) 0 0) ≡ false → p (get_or (drop (length (run p (b ∷ t))) (b ∷ t)) 0 0) ≡ false
    by (goes e q) ih = rw q ih
    by (stops e q) ih = rw q e

pub run_append : (p : ℕ → Bool) (s t : List ℕ) → Each p s → p (get_or t 0 0) ≡ false → run p (s ++ t) ≡ s
unfolding run
run_append p [] [] a z = refl
run_append p [] (b ∷ t) a z = rw z
run_append p (x ∷ s) t a z = rw a.0 (ap {B = List ℕ} (λ r. x ∷ r) (run_append p s t a.1 z))

pub each_weaker : (p q : ℕ → Bool) → ((b : ℕ) → p b ≡ true → q b ≡ true) → (t : List ℕ) → Each p t → Each q t
each_weaker p q w [] a = tt
each_weaker p q w (b ∷ t) a = (w b a.0, each_weaker p q w t a.1)
