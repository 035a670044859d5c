-- Where the first fault behind the header stands (01, "The numbers", 4 to 8, and their order; 02, T-01): in a line of inputs, latches, output or
-- gates; then in what these use; then in gates that reach themselves; then in a symbol line. All before it is right. Assumes nothing.
use Rattle.std.specs.Prelude.{ℕ, ◌+◌, List, [], map, length, drop}
use Rattle.circuit.specs.Circuit.{Gate}
use Rattle.text.specs.Circle.{Circle}
use Rattle.text.specs.FirstFault.{AllRight, FirstFault}
use Rattle.text.specs.Header.{Header}
use Rattle.text.specs.InList.{All}
use Rattle.text.specs.Kind.{kinds, defined_by_all, used_by_all, gate_of}
use Rattle.text.specs.NoSymbol.{NoSymbol}
use Rattle.text.specs.Unknown.{Unknown}
use Rattle.text.specs.WellFormed.{Known, ReachesItself}

-- the gates that lines say: those behind inputs, latches and output
abbrev pub gates_on : Header → (rows : List (List ℕ)) → List Gate
gates_on h rows = map gate_of (drop (h.inputs + h.latches + 1) rows)

-- lines of these numbers use what is defined, and no gate reaches itself
pub record WellUsed (h : Header) (rows : List (List ℕ)) : Type 0 where
  pub known : All (All (Known (defined_by_all (kinds h) rows))) (used_by_all (kinds h) rows)
  pub no_circle : (i : ℕ) → ReachesItself (gates_on h rows) i → ⊥

pub data BodyBroken (h : Header) (rest : List (List ℕ)) (number place : ℕ) : Type 0 where
  in_lines : FirstFault h.largest (kinds h) [] rest 2 number place → BodyBroken h rest number place
  in_use :
      (rows : List (List ℕ)) → AllRight h.largest (kinds h) [] rest rows
      → Unknown (defined_by_all (kinds h) rows) 2 (used_by_all (kinds h) rows) number place
      → BodyBroken h rest number place
  in_circle :
      (rows : List (List ℕ)) → AllRight h.largest (kinds h) [] rest rows
      → All (All (Known (defined_by_all (kinds h) rows))) (used_by_all (kinds h) rows)
      → Circle (3 + h.inputs + h.latches) (gates_on h rows) number place
      → BodyBroken h rest number place
  in_symbols :
      (rows : List (List ℕ)) → AllRight h.largest (kinds h) [] rest rows
      → WellUsed h rows
      → NoSymbol h (3 + h.inputs + h.latches + h.gates) [] (drop (length (kinds h)) rest) number place
      → BodyBroken h rest number place
