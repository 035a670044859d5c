-- A line is written field by field: the first number, each further one behind a space, and byte 10. Assumes nothing.
use Prim.Native.Nat.{ℕ, ◌+◌, ◌<◌, ◌≤◌}
use native.Mathlib.Omega.{arith}
use mathlib.Core.List.{List, [], ◌∷◌, ◌++◌, flat_map, append_assoc, append-nil}
use mathlib.Core.Path.{◌≡◌, refl, sym, ap, ◌∙◌, subst}
use lib.ListN.{length, get_or, take}
use Rattle.std.proofs.lemmas.List.{take_all, take_more}
use Rattle.decimal.proofs.Laws.InTurn.{flat_map_append}
use Rattle.text.specs.Number.{decimal}
use Rattle.text.specs.Written.{number_line}
use Rattle.page.specs.declared.Page.{Page}
use Rattle.page.specs.Added.{Added}
use Rattle.page.specs.Field.{field}
use Rattle.page.proofs.Laws.Added.{added_nothing, added_both}

pub line_fields : (n : ℕ) (ns : List ℕ) → number_line (n ∷ ns) ≡ decimal n ++ (flat_map field ns ++ (10 ∷ []))
unfolding number_line flat_map
line_fields n [] = refl
line_fields n (m ∷ ns) = ap (λ (l : List ℕ). decimal n ++ (32 ∷ l)) (line_fields m ns ∙ sym (append_assoc (decimal m) (flat_map field ns) (10 ∷ [])))

pub added_fields_none : (page : Page) → Added (flat_map field []) page page
unfolding flat_map
added_fields_none page = added_nothing page

pub added_fields_more :
    (ns : List ℕ) (i : ℕ) {old mid new : Page} → i < length ns → Added (flat_map field (take i ns)) old mid → Added (field (get_or ns i 0)) mid new
    → Added (flat_map field (take (i + 1) ns)) old new
unfolding flat_map
added_fields_more ns i {old} {mid} {new} h w v =
    rw (take_more ns i 0 h, flat_map_append field (take i ns) (get_or ns i 0 ∷ []), append-nil) (added_both w v)

pub added_line :
    {ns : List ℕ} (n : ℕ) (more : List ℕ) (i : ℕ) {p q r r' s : Page} → ns ≡ n ∷ more → length more ≤ i → r' ≡ r → Added (decimal n) p q
    → Added (flat_map field (take i more)) q r → Added (10 ∷ []) r' s → Added (number_line ns) p s
added_line n more i {p} {q} {r} {r'} {s} e h f w v u =
    let fields : Added (flat_map field more) q r = rw (← take_all i more h) v in
    let end : Added (10 ∷ []) r s = subst (λ (x : Page). Added (10 ∷ []) x s) f u in
    rw (e, line_fields) (added_both w (added_both fields end))

pub added_empty_line : (ns : List ℕ) {p q q' : Page} → length ns ≡ 0 → q' ≡ p → Added (10 ∷ []) q' q → Added (number_line ns) p q
unfolding number_line
added_empty_line [] {p} {q} h f w = subst (λ (x : Page). Added (10 ∷ []) x q) f w
added_empty_line (n ∷ ns) h f w = absurd (omega arith)
