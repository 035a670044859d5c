-- What holds of a search from a start on; and what every loop that goes through it keeps. Assumes nothing.
use Prim.Native.Nat.{ℕ, ◌+◌, ◌<◌, ◌≤◌, min}
use native.Mathlib.Omega.{arith}
use native.Mathlib.Decide.{dec_lt}
use mathlib.Core.Bool.{Bool, true, false, ◌&&◌, true≢false}
use mathlib.Core.Path.{◌≡◌, sym, ap, ◌∙◌}
use lib.Dec.{leb}
use borrow.Author.Tests.{le-leb, lt-leb}
use Rattle.below.specs.Least.{least}
use Rattle.below.specs.LeastFrom.{least_from}
use Rattle.below.proofs.Laws.Least.{least_le, least-is, least_none, least_holds, least-before, least_same}

module _ (p : ℕ → Bool) (from n : ℕ) where
  early : (i : ℕ) → i < from → (leb from i && p i) ≡ false
  early i h = ap (λ (b : Bool). b && p i) (lt-leb from i h)

  late : (i : ℕ) → from ≤ i → (leb from i && p i) ≡ p i
  late i h = ap (λ (b : Bool). b && p i) (le-leb from i h)

  all_fail : (m : ℕ) → ((j : ℕ) → from ≤ j → j < m → p j ≡ false) → (j : ℕ) → j < m → (leb from j && p j) ≡ false
  all_fail m none j h = elim (dec_lt j from) [ yes l ↦ early j l | no l ↦ late j (omega arith) ∙ none j (omega arith) h ]

  pub from_found : (i : ℕ) → from ≤ i → i < n → p i ≡ true → ((j : ℕ) → from ≤ j → j < i → p j ≡ false) → least_from p from n ≡ i
  unfolding least_from
  from_found i f h e none = least-is (λ i. leb from i && p i) n i h (late i f ∙ e) (all_fail i none)

  pub from_none : ((j : ℕ) → from ≤ j → j < n → p j ≡ false) → least_from p from n ≡ n
  unfolding least_from
  from_none none = least_none (λ i. leb from i && p i) n (all_fail n none)

  pub from_le : least_from p from n ≤ n
  unfolding least_from
  from_le = least_le (λ i. leb from i && p i) n

  pub from-before : (i : ℕ) → from ≤ i → i < least_from p from n → p i ≡ false
  unfolding least_from
  from-before i f h = sym (late i f) ∙ least-before (λ i. leb from i && p i) n i h

  -- what is found passes, and stands at the start or behind it
  found : (i : ℕ) → (leb from i && p i) ≡ true → (from ≤ i) × (p i ≡ true)
  found i e = elim (dec_lt i from) [ yes l ↦ absurd (true≢false (sym e ∙ early i l)) | no l ↦ (omega arith, sym (late i (omega arith)) ∙ e) ]

  pub from_holds : least_from p from n < n → p (least_from p from n) ≡ true
  unfolding least_from
  from_holds h = (found (least (λ i. leb from i && p i) n) (least_holds (λ i. leb from i && p i) n h)).1

  pub from_start : least_from p from n < n → from ≤ least_from p from n
  unfolding least_from
  from_start h = (found (least (λ i. leb from i && p i) n) (least_holds (λ i. leb from i && p i) n h)).0

  -- none from the start up to k passes
  pub record Searched (k : ℕ) : Type 0 where
    pub within : k ≤ n
    pub started : k < n → from ≤ k
    pub none : (i : ℕ) → from ≤ i → i < k → p i ≡ false

  pub searched_start : Searched (min from n)
  searched_start = record { within = omega arith; started = λ h. omega arith; none = λ i f h. absurd (omega arith) }

  pub searched_more : (k m : ℕ) → Searched k → k < n → k ≤ m → m ≤ n → ((i : ℕ) → k ≤ i → i < m → p i ≡ false) → Searched m
  searched_more k m s h a b fail = record {
    within = b;
    started = λ l. omega (arith, s.started h);
    none =
        λ i f l. elim (dec_lt i k) [ yes c ↦ s.none i f c | no c ↦ fail i (omega arith) l ];
  }

  pub searched_found : (k i : ℕ) → Searched k → k ≤ i → i < n → p i ≡ true → ((j : ℕ) → k ≤ j → j < i → p j ≡ false) → i ≡ least_from p from n
  searched_found k i s a h e fail =
      sym (from_found i (omega (arith, s.started (omega arith))) h e (λ j f l. elim (dec_lt j k) [ yes c ↦ s.none j f c | no c ↦ fail j (omega arith) l ]))

  -- one at a time
  pub searched_from : from ≤ n → Searched from
  searched_from h = record { within = h; started = λ l. omega arith; none = λ i f l. absurd (omega arith) }

  pub searched_next : (k : ℕ) → Searched k → k < n → p k ≡ false → Searched (k + 1)
  searched_next k s h e = searched_more k (k + 1) s h (omega arith) (omega arith) (λ i a b. ap p (same i a b) ∙ e)
    where
      same : (i : ℕ) → k ≤ i → i < k + 1 → i ≡ k
      same i a b = omega arith

  pub searched_here : (k : ℕ) → Searched k → k < n → p k ≡ true → k ≡ least_from p from n
  searched_here k s h e = searched_found k k s (omega arith) h e (λ j a b. absurd (omega arith))

  pub searched_end : (k : ℕ) → Searched k → n ≤ k → n ≡ least_from p from n
  searched_end k s h = sym (from_none (λ j f l. s.none j f (omega arith)))

-- from 0 on, it is the least of all
pub from_zero : (p : ℕ → Bool) (n : ℕ) → least_from p 0 n ≡ least p n
unfolding least_from
from_zero p n = least_same (λ i. leb 0 i && p i) p n (λ i h. late p 0 n i (omega arith))

pub from_same : (p q : ℕ → Bool) (from n : ℕ) → ((i : ℕ) → i < n → p i ≡ q i) → least_from p from n ≡ least_from q from n
unfolding least_from
from_same p q from n e = least_same (λ i. leb from i && p i) (λ i. leb from i && q i) n (λ i h. ap (λ (b : Bool). leb from i && b) (e i h))
