-- A search one by one from a start that may lie behind its end: then nothing is looked at. Assumes nothing.
use Prim.Native.Nat.{ℕ, ◌+◌, ◌<◌, ◌≤◌, min}
use native.Mathlib.Omega.{arith}
use mathlib.Core.Bool.{Bool, true, false}
use mathlib.Core.Path.{◌≡◌, subst}
use Rattle.below.specs.LeastFrom.{least_from}
use Rattle.below.proofs.Laws.LeastFrom.{Searched, searched_next, searched_here, searched_end}

module _ (p : ℕ → Bool) (from n k : ℕ) (searched : Searched p from n (min k n)) where
  inside : k < n → Searched p from n k
  inside h = subst (λ (i : ℕ). Searched p from n i) same searched
    where
      same : min k n ≡ k
      same = omega arith

  pub search_here : k < n → p k ≡ true → k ≡ least_from p from n
  search_here h e = searched_here p from n k (inside h) h e

  pub search_next : k < n → p k ≡ false → Searched p from n (min (k + 1) n)
  search_next h e = subst (λ (i : ℕ). Searched p from n i) same (searched_next p from n k (inside h) h e)
    where
      same : k + 1 ≡ min (k + 1) n
      same = omega arith

  pub search_end : n ≤ k → n ≡ least_from p from n
  search_end h = searched_end p from n (min k n) searched (omega arith)
