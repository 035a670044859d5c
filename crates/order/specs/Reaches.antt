-- A gate reaches another through gates (02, T-01): by one use or more. A gate on a cycle reaches itself. Assumes nothing.
use Rattle.std.specs.Prelude.{ℕ, List}
use Rattle.order.specs.Uses.{Uses}

pub data Reaches (uses : List ℕ) (n : ℕ) : ℕ → ℕ → Type 0 where
  at_once : {i j : ℕ} → Uses uses n i j → Reaches uses n i j
  through : {i j k : ℕ} → Uses uses n i j → Reaches uses n j k → Reaches uses n i k
