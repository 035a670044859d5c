-- What was read of a file, as the circuit that it means. Assumes nothing.
use Rattle.std.proofs.Common.{List, ℕ, ◌≡◌, refl, sym, ap, ◌∙◌}
use Rattle.std.specs.Prelude.{Result, Ok, Err, MatchResult, IsOkAnd}
use Rattle.circuit.specs.Answer.{outcome_of, ReadAs}
use Rattle.circuit.specs.Circuit.{Circuit}
use Rattle.circuit.specs.declared.Circuit.{Circuit as Value}
use Rattle.circuit.specs.declared.numbers.Refusal.{Refusal}
use Rattle.circuit.specs.Outcome.{Outcome, taken, ◌>>=◌}
use Rattle.circuit.specs.Stored.{meant}
use Rattle.file.specs.CircuitIn.{circuit_in}
use Rattle.file.proofs.Laws.Read.{Means, taken_means, refused_means}

pub read_means :
    (file : List ℕ) (r : Result Value Refusal) → ReadAs (circuit_in file) r → (outcome_of r >>= λ v. taken (meant v)) ≡ circuit_in file
unfolding outcome_of
read_means file (Ok v) given = let m : Means file v = taken_means file (Ok v) given v refl in ap {B = Outcome Circuit} taken m.meant_is ∙ sym m.read
read_means file (Err x) given = sym (refused_means file (Err x) given x refl)

-- what is made of it, if it was read
pub made_means :
    {B : Type 0} (f : Circuit → B) (file : List ℕ) (r : Result Value Refusal) (m : Result B Refusal) → ReadAs (circuit_in file) r
    → MatchResult r (λ v. IsOkAnd m (λ b. b ≡ f (meant v))) (λ e. m ≡ Err e) → outcome_of m ≡ (circuit_in file >>= λ c. taken (f c))
unfolding outcome_of
made_means {B} f file (Ok v) (Ok b) given p = ap {B = Outcome B} taken p ∙ ap (λ (o : Outcome Circuit). o >>= λ c. taken (f c)) (read_means file (Ok v) given)
made_means f file (Ok v) (Err e) given p = absurd p
made_means f file (Err x) m given p = ap outcome_of p ∙ ap (λ (o : Outcome Circuit). o >>= λ c. taken (f c)) (read_means file (Err x) given)
