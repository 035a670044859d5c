-- Lines count from 1 (01, "The numbers"): the line at fault is the file's line with the number that the refusal gives as its place.
-- Assumes nothing.
use Prim.Native.Nat.{ℕ, suc, ◌-◌, ◌≤◌}
use native.Mathlib.Omega.{arith}
use mathlib.Core.List.{List, [], ◌∷◌, ◌++◌}
use mathlib.Core.Logic.{inl, inr}
use mathlib.Core.Path.{◌≡◌, ap, ◌∙◌, subst}
use lib.ListN.{get_or, drop}
use lib.Seq.{get_or-drop}
use Rattle.text.specs.FirstFault.{FirstFault}
use Rattle.text.specs.Kind.{Kind, defined_by}
use Rattle.text.specs.LineFault.{LineFault}

-- the line of a place, where the first of these lines stands at another
pub record At (M : ℕ) (ls : List (List ℕ)) (at number place : ℕ) : Type 0 where
  pub kind : Kind
  pub defined : List ℕ
  pub from : at ≤ place
  pub fault : LineFault M kind defined (get_or ls (place - at) []) number

pub first_at : (M : ℕ) (ks : List Kind) (defined : List ℕ) (ls : List (List ℕ)) (at number place : ℕ) → FirstFault M ks defined ls at number place
    → At M ls at number place
first_at M [] defined ls at number place w = absurd w
first_at M (k ∷ ks) defined ls at number place (inl (p, f)) =
    let here : 0 ≡ place - at = omega (arith, p) in
    record { kind = k; defined = defined; from = omega (arith, p); fault = subst (λ (i : ℕ). LineFault M k defined (get_or ls i []) number) here f }
first_at M (k ∷ ks) defined ls at number place (inr (fs, r, more)) =
    let below : At M (drop 1 ls) (suc at) number place = first_at M ks (defined ++ defined_by k fs) (drop 1 ls) (suc at) number place more in
    let from : suc at ≤ place = below.from in
    let there : get_or (drop 1 ls) (place - suc at) [] ≡ get_or ls (place - at) [] =
    get_or-drop 1 ls (place - suc at) [] ∙ ap (λ (i : ℕ). get_or ls i []) (omega (arith, from)) in
    record {
      kind = below.kind;
      defined = below.defined;
      from = omega (arith, from);
      fault =
          subst (λ (l : List ℕ). LineFault M below.kind below.defined l number) there below.fault;
    }
