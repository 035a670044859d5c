-- What the literals of a line must be (01, "The file", rules 3 and 4; "The numbers", 5 and 6): each kind of line with its count of
-- numbers, and the first of 5 and 6 that its literals call for; and when a literal that is used isn't defined (7). Assumes nothing.
use Rattle.std.specs.Prelude.{ℕ, Bool, true, false, cond, not, ◌&&◌, ◌||◌, List, [], ◌∷◌, get_or}
use Rattle.std.proofs.Math.Option.{Option, none, some}
use Rattle.below.specs.Among.{member}
use Rattle.circuit.specs.Literal.{variable, constant, may_define, too_large}
use Rattle.text.specs.Numbers.{bad_literal, defined_twice}

-- 5 before 6
unfoldable pub first_of : (five six : Bool) → Option ℕ
first_of five six = cond five (some bad_literal) (cond six (some defined_twice) none)

-- a literal that may not define here
unfoldable pub bad_own : ℕ → ℕ → Bool
bad_own M l = too_large M l || not (may_define l)

unfoldable pub is_defined : List ℕ → ℕ → Bool
is_defined defined l = member (variable l) defined

-- neither a constant nor a variable that is defined
unfoldable pub unknown : List ℕ → ℕ → Bool
unknown defined l = not (constant l) && not (is_defined defined l)

-- one of these is
unfoldable pub any_unknown : (defined literals : List ℕ) → Bool
any_unknown defined [] = false
any_unknown defined (l ∷ ls) = unknown defined l || any_unknown defined ls

-- a kind of line: how many numbers it has, whether its first defines, and what its numbers call for, given the variables defined above it
pub record Rule : Type 0 where
  pub count : ℕ
  pub defines : Bool
  pub fault : List ℕ → List ℕ → Option ℕ

unfoldable pub input_rule : ℕ → Rule
input_rule M =
    record {
      count = 1;
      defines = true;
      fault = λ defined fs. first_of (bad_own M (get_or fs 0 0)) (is_defined defined (get_or fs 0 0));
    }

unfoldable pub latch_rule : ℕ → Rule
latch_rule M =
    record {
      count = 2;
      defines = true;
      fault = λ defined fs. first_of (bad_own M (get_or fs 0 0) || too_large M (get_or fs 1 0)) (is_defined defined (get_or fs 0 0));
    }

unfoldable pub output_rule : ℕ → Rule
output_rule M = record { count = 1; defines = false; fault = λ defined fs. first_of (too_large M (get_or fs 0 0)) false }

unfoldable pub gate_rule : ℕ → Rule
gate_rule M =
    record {
      count = 3;
      defines = true;
      fault =
          λ defined fs.
          first_of (bad_own M (get_or fs 0 0) || too_large M (get_or fs 1 0) || too_large M (get_or fs 2 0))
          (is_defined defined (get_or fs 0 0));
    }
