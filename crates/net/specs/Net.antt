-- A net: a circuit in the form in which it is evaluated. Its variables are numbered anew: variable 0 is false, variable 1 + i bit i of a
-- move, and each gate in turn takes the next one. Literals are those of 01, "The file", rule 3. One list of numbers: C, U, L, the output's
-- literal, a next-state literal for each latch, then two operands for each gate. Assumes nothing.
use Rattle.std.specs.Prelude.{ℕ, suc, ◌+◌, ◌-◌, ◌/◌, ◌^◌, Bool, ◌&&◌, List, [], ◌∷◌, map, leb, get_or, take, drop}
use Rattle.bits.specs.Bit.{odd, one_if}
use Rattle.bits.specs.Digits.{sum}
use Rattle.step.specs.declared.Stepped.{Stepped}
use Rattle.step.specs.Value.{Valuation, literal_value, put}

unfoldable pub net_controls : List ℕ → ℕ
net_controls net = get_or net 0 0

unfoldable pub net_readings : List ℕ → ℕ
net_readings net = get_or net 1 0

unfoldable pub net_latches : List ℕ → ℕ
net_latches net = get_or net 2 0

unfoldable pub net_output : List ℕ → ℕ
net_output net = get_or net 3 0

unfoldable pub net_nexts : List ℕ → List ℕ
net_nexts net = take (net_latches net) (drop 4 net)

unfoldable pub net_operands : List ℕ → List ℕ
net_operands net = drop (net_latches net) (drop 4 net)

-- how many bits a move has
unfoldable pub move_bits : List ℕ → ℕ
move_bits net = net_controls net + net_readings net + net_latches net

-- before any gate: variable 1 + i is bit i of the move, of n bits
unfoldable pub with_move : (n move : ℕ) → Valuation
with_move n move = λ v. leb 1 v && leb v n && odd (move / 2 ^ (v - 1))

-- gate after gate, the first of them variable v: both operands are true
unfoldable pub with_operands : List ℕ → ℕ → Valuation → Valuation
with_operands [] v val = val
with_operands (a ∷ []) v val = val
with_operands (a ∷ b ∷ rest) v val = with_operands rest (suc v) (put v (literal_value val a && literal_value val b) val)

unfoldable pub net_values : List ℕ → (move : ℕ) → Valuation
net_values net move = with_operands (net_operands net) (suc (move_bits net)) (with_move (move_bits net) move)

-- the step of a move (01, "The game"): the error, and the next state
unfoldable pub net_error : List ℕ → (move : ℕ) → Bool
net_error net move = literal_value (net_values net move) (net_output net)

unfoldable pub net_next : List ℕ → (move : ℕ) → ℕ
net_next net move = sum 2 (map (λ l. one_if (literal_value (net_values net move) l)) (net_nexts net))

unfoldable pub net_step : List ℕ → (move : ℕ) → Stepped
net_step net move = record { error = net_error net move; next = net_next net move }
