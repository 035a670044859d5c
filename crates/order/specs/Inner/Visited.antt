-- What a visit leaves of the lists that it is lent: the marks and the gates placed so far are those of the definition, by any fuel that is enough,
-- and the places behind are as before. Assumes nothing.
use Rattle.std.specs.Prelude.{ℕ, ◌+◌, ◌≤◌, List, ◌≡◌, length, get_or, take}
use Rattle.order.specs.declared.graph.Gates.{Gates}
use Rattle.order.specs.Uses.{first_of, second_of}
use Rattle.order.specs.Placing.{Placing, visit, place}
use Rattle.order.specs.Inner.Unseen.{unseen}

pub record Reached (goal : ℕ → Placing) (total : ℕ) (marks order after placed : List ℕ) (count : ℕ) : Type 0 where
  pub counts : count + unseen after ≡ total
  pub fewer : unseen after ≤ unseen marks
  pub rest : (k : ℕ) → count ≤ k → get_or placed k 0 ≡ get_or order k 0
  pub same : (fuel : ℕ) → unseen marks ≤ fuel → goal fuel ≡ record { marks = after; order = take count placed }

abbrev pub placing_of : (marks order : List ℕ) → (count : ℕ) → Placing
placing_of marks order count = record { marks = marks; order = take count order }

abbrev pub VisitedLists : (uses marks order : List ℕ) (gate count : ℕ) (after placed : List ℕ) → ℕ → Type 0
VisitedLists uses marks order gate count after placed r =
    Reached (λ fuel. visit uses (length marks) fuel gate (placing_of marks order count)) (count + unseen marks) marks order after placed r

abbrev pub operands_of : (uses : List ℕ) (n gate fuel : ℕ) → Placing → Placing
operands_of uses n gate fuel p = place gate (visit uses n fuel (second_of uses n gate) (visit uses n fuel (first_of uses n gate) p))

-- the operands of a gate that is marked already, then the gate itself
abbrev pub OperandsLists : (uses marks order : List ℕ) (gate count : ℕ) (after placed : List ℕ) → ℕ → Type 0
OperandsLists uses marks order gate count after placed r =
    Reached (λ fuel. operands_of uses (length marks) gate fuel (placing_of marks order count)) (count + unseen marks + 1) marks order after placed r

-- the same of gates as they are lent
abbrev pub Visited : (before : Gates) (gate count : ℕ) (after : Gates) → ℕ → Type 0
Visited before gate count after = VisitedLists before.uses.now before.marks.now before.order.now gate count after.marks.now after.order.now

abbrev pub Operands : (before : Gates) (gate count : ℕ) (after : Gates) → ℕ → Type 0
Operands before gate count after = OperandsLists before.uses.now before.marks.now before.order.now gate count after.marks.now after.order.now
