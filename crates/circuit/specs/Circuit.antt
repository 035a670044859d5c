-- A circuit (01, "The file", rules 1, 2 and 4, and the sentence on controllable inputs; 02, T-01): what its text means, inputs and latches
-- in the order of the file, gates in order of evaluation. Names, comment and the spelling of the file are no part of it. Assumes nothing.
use Rattle.std.specs.Prelude.{ℕ, zero, suc, Bool, cond, not, ◌||◌, List, [], ◌∷◌, map, ltb, length, get_or}
use Rattle.circuit.specs.Limits.{Limits}

-- an input's literal, and whether it is controllable
pub record Input : Type 0 where
  pub own : ℕ
  pub controllable : Bool

-- a latch's literal and its next-state literal
pub record Latch : Type 0 where
  pub own : ℕ
  pub next : ℕ

-- a gate's literal and its two operands
pub record Gate : Type 0 where
  pub own : ℕ
  pub left : ℕ
  pub right : ℕ

pub record Circuit : Type 0 where
  pub largest : ℕ
  pub inputs : List Input
  pub latches : List Latch
  pub output : ℕ
  pub gates : List Gate
  -- for each gate line of the file in turn, which of the gates it is
  pub lines : List ℕ

-- a gate of a list; one that isn't there gives variable 0, the constant, its own value
unfoldable pub gate_at : List Gate → ℕ → Gate
gate_at gates i = get_or gates i (record { own = 0; left = 0; right = 0 })

-- the gates in the order of the file's lines
unfoldable pub gate_lines : Circuit → List Gate
gate_lines c = map (gate_at c.gates) c.lines

-- how many inputs of a list pass
unfoldable pub inputs_that : (Input → Bool) → List Input → ℕ
inputs_that p [] = zero
inputs_that p (i ∷ is) = cond (p i) (suc (inputs_that p is)) (inputs_that p is)

-- L, U and C (01, the table of limits)
unfoldable pub latch_count : Circuit → ℕ
latch_count c = length c.latches

unfoldable pub uncontrollable_count : Circuit → ℕ
uncontrollable_count c = inputs_that (λ i. not i.controllable) c.inputs

unfoldable pub controllable_count : Circuit → ℕ
controllable_count c = inputs_that (λ i. i.controllable) c.inputs

-- more than 5 uncontrollable or 8 controllable inputs (01, "The numbers", 9)
unfoldable pub too_many : Limits → Circuit → Bool
too_many limits c =
    ltb limits.uncontrollable (uncontrollable_count c) || ltb limits.controllable (controllable_count c)
