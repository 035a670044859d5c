-- What is answered for a circuit of which only inputs and latches are lent, cut at their counts: whatever the rest of it is. Assumes nothing.
use Rattle.std.specs.Prelude.{ℕ, List, ◌≡◌, take}
use Rattle.circuit.specs.Outcome.{taken}
use Rattle.circuit.specs.Stored.{lent}
use Rattle.capi.specs.Plain.{read_answer}
use Rattle.capi.specs.declared.ReadAnswer.{ReadAnswer}

abbrev pub CountedAs : (inputs : ℕ) (input controllable : List ℕ) (latches : ℕ) (latch : List ℕ) → ReadAnswer → Type 0
CountedAs inputs input controllable latches latch r =
    (largest : ℕ) (next : List ℕ) (output : ℕ) (gate left right : List ℕ)
    → r ≡ read_answer (taken (lent largest (take inputs input) controllable (take latches latch) next output gate left right))
