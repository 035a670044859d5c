-- What is put on a page for a gate's line and for a symbol is that line, and that symbol. Assumes nothing.
use Prim.Native.Nat.{ℕ, ◌<◌, ◌≤◌}
use mathlib.Core.Bool.{true, false, not}
use mathlib.Core.List.{List, [], ◌∷◌, ◌++◌, append_assoc}
use mathlib.Core.Path.{◌≡◌, sym, ap, ◌∙◌, subst}
use lib.Dec.{eqb}
use lib.ListN.{length, get_or}
use Rattle.below.proofs.Laws.Table.{get_or_table, get_or_table_past}
use Rattle.circuit.specs.Circuit.{Gate, gate_at}
use Rattle.circuit.specs.Stored.{literal_of, gates_of}
use Rattle.circuit.specs.declared.lent.Lent.{Lent}
use Rattle.text.specs.Number.{decimal}
use Rattle.text.specs.Symbol.{input_letter, prefix}
use Rattle.text.specs.Written.{number_line, symbol_line}
use Rattle.page.specs.Added.{Added}
use Rattle.page.specs.declared.Page.{Page}
use Rattle.page.proofs.Laws.Added.{added_nothing, added_both}
use Rattle.printer.specs.Inner.Line.{gate_text, gate_line, name_line}

module _ (l : Lent) (i : ℕ) {p q : Page} where
  -- a gate that is there, and one that isn't
  pub added_gate :
      (k own left right : ℕ) → k ≡ get_or l.lines.now i 0 → k < length l.gate.now → own ≡ literal_of (get_or l.gate.now k 0)
      → left ≡ literal_of (get_or l.left.now k 0) → right ≡ literal_of (get_or l.right.now k 0) → Added (number_line (own ∷ left ∷ right ∷ [])) p q
      → Added (gate_line l i) p q
  unfolding gate_at gates_of
  added_gate k own left right e h a b c w =
      let there : gate_at (gates_of l.gate.now l.left.now l.right.now) k ≡ record { own = own; left = left; right = right } =
      get_or_table _ (length l.gate.now) k (record { own = 0; left = 0; right = 0 }) h ∙ (λ x. record { own = sym a x; left = sym b x; right = sym c x }) in
      subst (λ (n : ℕ). Added (gate_text (gate_at (gates_of l.gate.now l.left.now l.right.now) n)) p q) e
      (subst (λ (g : Gate). Added (gate_text g) p q) (sym there) w)

  pub added_no_gate :
      (k : ℕ) → k ≡ get_or l.lines.now i 0 → length l.gate.now ≤ k → Added (number_line (0 ∷ 0 ∷ 0 ∷ [])) p q → Added (gate_line l i) p q
  unfolding gate_at gates_of
  added_no_gate k e h w =
      let none : gate_at (gates_of l.gate.now l.left.now l.right.now) k ≡ record { own = 0; left = 0; right = 0 } =
      get_or_table_past _ (length l.gate.now) k (record { own = 0; left = 0; right = 0 }) h in
      subst (λ (n : ℕ). Added (gate_text (gate_at (gates_of l.gate.now l.left.now l.right.now) n)) p q) e
      (subst (λ (g : Gate). Added (gate_text g) p q) (sym none) w)

  -- a controllable input's symbol in its four parts, and another's
  pub added_name :
      {a b c : Page} → not (eqb (get_or l.controllable.now i 0) 0) ≡ true → Added (input_letter ∷ []) p a → Added (decimal i) a b
      → Added (32 ∷ prefix) b c → Added (number_line (i ∷ [])) c q → Added (name_line l i) p q
  unfolding name_line symbol_line number_line
  added_name controllable w v u t =
      rw controllable
      (subst (λ (s : List ℕ). Added s p q) (ap (λ (s : List ℕ). input_letter ∷ decimal i ++ s) parts) (added_both w (added_both v (added_both u t))))
    where
      parts : (32 ∷ prefix) ++ (decimal i ++ (10 ∷ [])) ≡ 32 ∷ (prefix ++ decimal i) ++ (10 ∷ [])
      parts = ap (λ (s : List ℕ). 32 ∷ s) (sym (append_assoc prefix (decimal i) (10 ∷ [])))

pub added_no_name : (l : Lent) (i : ℕ) (page : Page) → not (eqb (get_or l.controllable.now i 0) 0) ≡ false → Added (name_line l i) page page
unfolding name_line
added_no_name l i page e = rw e (added_nothing page)
