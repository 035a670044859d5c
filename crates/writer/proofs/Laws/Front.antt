-- Reading, then the certificate of the circuit: what `certify` writes. Assumes nothing.
use Rattle.std.proofs.Common.{ℕ, List, ◌≡◌, refl, sym, ap, ◌∙◌, subst}
use Rattle.std.specs.Prelude.{Result, Ok, Err}
use Rattle.circuit.specs.Answer.{outcome_of, ReadAs, buffer_after}
use Rattle.circuit.specs.Circuit.{Circuit}
use Rattle.circuit.specs.declared.Circuit.{Circuit as Value}
use Rattle.circuit.specs.declared.numbers.Refusal.{Refusal}
use Rattle.circuit.specs.Outcome.{Outcome, taken}
use Rattle.circuit.specs.Stored.{meant, solvable}
use Rattle.file.specs.CircuitIn.{circuit_in}
use Rattle.file.proofs.Laws.Read.{Means, taken_means, refused_means}
use Rattle.writer.specs.declared.Certified.{Certified}
use Rattle.writer.specs.Answer.{CertifiedAs, certified_outcome, certificate_for, verdict_for}

module _ (kind : ℕ) (file : List ℕ) (r : Result Value Refusal) (given : ReadAs (circuit_in file) r) where
  pub front_certified :
      (v : Value) (before after : List ℕ) (k : Result Certified Refusal) → r ≡ Ok v
      → CertifiedAs kind file (taken (solvable (meant v))) before after k → CertifiedAs kind file (circuit_in file) before after k
  front_certified v before after k e p =
      let m : Means file v = taken_means file r given v e in
      subst (λ (o : Outcome Circuit). CertifiedAs kind file o before after k) (ap {B = Outcome Circuit} taken m.solvable-is ∙ sym m.read) p

  pub front_refused : (buffer : List ℕ) (x : Refusal) → r ≡ Err x → CertifiedAs kind file (circuit_in file) buffer buffer (Err x)
  unfolding certified_outcome outcome_of certificate_for verdict_for buffer_after
  front_refused buffer x e =
      subst (λ (o : Outcome Circuit). CertifiedAs kind file o buffer buffer (Err x)) (sym (refused_means file r given x e))
      (record { answer = refl; bytes = refl })
