-- Searching below a bound: "least", "some" and "each" of document 01 ("The game": the least control, the least reading, each state and
-- reading; "The numbers": the lowest place). Assumes nothing.
use Rattle.std.specs.Prelude.{ℕ, zero, suc, Bool, cond, not, ltb}

-- the least i below n that passes the test p, or n where none does
unfoldable pub least : (ℕ → Bool) → ℕ → ℕ
least p zero = zero
least p (suc n) = let i = least p n in cond (ltb i n) i (cond (p n) n (suc n))

-- some i below n passes
unfoldable pub any : (ℕ → Bool) → ℕ → Bool
any p n = ltb (least p n) n

-- each i below n passes
unfoldable pub every : (ℕ → Bool) → ℕ → Bool
every p n = not (any (λ i. not (p i)) n)
