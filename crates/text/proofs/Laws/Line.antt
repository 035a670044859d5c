-- Lines and their numbers, written and read back (01, "The file": every line ends in byte 10; single spaces stand between numbers).
-- Assumes nothing.
use Prim.Native.Nat.{ℕ, zero, suc, ◌^◌, ◌<◌, ◌≤◌}
use native.Mathlib.Omega.{arith}
use mathlib.Core.Bool.{Bool, true, false, not}
use mathlib.Core.List.{List, [], ◌∷◌, ◌++◌, map, flat_map, append_assoc}
use mathlib.Core.Option.{Option, none, some}
use mathlib.Core.Path.{◌≡◌, refl, sym, ap, ◌∙◌, subst}
use lib.Dec.{eqb}
use lib.ListN.{length, get_or, drop, length-append}
use borrow.Author.Tests.{eqb-true, ne_eqb, not-true}
use Rattle.bits.specs.Digits.{AllBelow}
use Rattle.text.specs.Line.{before, lines, prepend, fields, separators, numbers_of}
use Rattle.text.specs.LineIs.{LineIs}
use Rattle.text.specs.Number.{is_digit, Num, is, bad, number, decimal}
use Rattle.text.specs.Written.{number_line}
use Rattle.text.proofs.Laws.Number.{number-decimal, number_is, NumberIs, decimal_each, digit_range}
use Rattle.text.proofs.Laws.Run.{Each, each_append, each_weaker}

-- a byte that ends no line
abbrev pub inside : ℕ → Bool
inside b = not (eqb b 10)

pub lines_line : (l rest : List ℕ) → Each inside l → lines (l ++ (10 ∷ rest)) ≡ (l ++ (10 ∷ [])) ∷ lines rest
unfolding lines before
lines_line [] rest a = refl
lines_line (b ∷ l) rest a = rw (not-true (eqb b 10) a.0, lines_line l rest a.1)

-- a line: bytes inside, then byte 10
pub record IsLine (l : List ℕ) : Type 0 where
  pub front : List ℕ
  pub each : Each inside front
  pub whole : l ≡ front ++ (10 ∷ [])

pub lines-first : (l rest : List ℕ) → IsLine l → lines (l ++ rest) ≡ l ∷ lines rest
lines-first l rest i =
    rw i.whole (ap lines (append_assoc i.front (10 ∷ []) rest) ∙ lines_line i.front rest i.each)

-- the lines of a file are the file
flat-before : (b : ℕ) (ls : List (List ℕ)) → flat_map (λ l. l) (before b ls) ≡ b ∷ flat_map (λ l. l) ls
unfolding before flat_map
flat-before b [] = refl
flat-before b (l ∷ ls) = refl

pub flat-lines : (s : List ℕ) → flat_map (λ l. l) (lines s) ≡ s
unfolding lines flat_map
flat-lines [] = refl
flat-lines (b ∷ s) = by (eqb b 10) refl (flat-lines s)
  where
    by : (t : Bool) → eqb b 10 ≡ t → flat_map (λ l. l) (lines s) ≡ s → flat_map (λ l. l) (lines (b ∷ s)) ≡ b ∷ s
    by true e ih = rw e (ap {B = List ℕ} (λ r. b ∷ r) ih)
    by false e ih = rw e (flat-before b (lines s) ∙ ap {B = List ℕ} (λ r. b ∷ r) ih)

digit_inside : (b : ℕ) → is_digit b ≡ true → inside b ≡ true
digit_inside b e = let (low, high) = digit_range b e in rw (ne_eqb b 10 (omega arith))

pub decimal-inside : (n : ℕ) → Each inside (decimal n)
decimal-inside n = each_weaker is_digit inside digit_inside (decimal n) (decimal_each n)

pub number_line-is_line : (ns : List ℕ) → IsLine (number_line ns)
unfolding number_line
number_line-is_line [] = record { front = []; each = tt; whole = refl }
number_line-is_line (n ∷ []) = record { front = decimal n; each = decimal-inside n; whole = refl }
number_line-is_line (n ∷ m ∷ ns) =
    let rest : IsLine (number_line (m ∷ ns)) = number_line-is_line (m ∷ ns) in
    record {
      front = decimal n ++ (32 ∷ rest.front);
      each = each_append inside (decimal n) (32 ∷ rest.front) (decimal-inside n) (refl, rest.each);
      whole = rw rest.whole (sym (append_assoc (decimal n) (32 ∷ rest.front) (10 ∷ [])));
    }

pub number_line_some : (ns : List ℕ) → 1 ≤ length (number_line ns)
number_line_some ns = let l : IsLine (number_line ns) = number_line-is_line ns in rw l.whole (omega (arith, length-append l.front (10 ∷ [])))

pub lines_rows : (rows : List (List ℕ)) (rest : List ℕ) → lines (flat_map number_line rows ++ rest) ≡ map number_line rows ++ lines rest
unfolding flat_map
lines_rows [] rest = refl
lines_rows (ns ∷ rows) rest =
    ap lines (append_assoc (number_line ns) (flat_map number_line rows) rest)
    ∙ lines-first (number_line ns) (flat_map number_line rows ++ rest) (number_line-is_line ns)
    ∙ ap {B = List (List ℕ)} (λ ls. number_line ns ∷ ls) (lines_rows rows rest)

-- the numbers of a written line
pub numbers_line : (n : ℕ) (ns : List ℕ) → AllBelow (10 ^ 7) (n ∷ ns) → numbers_of (suc (length ns)) (number_line (n ∷ ns)) ≡ some (n ∷ ns)
unfolding numbers_of fields separators number_line prepend is_digit
numbers_line n [] a = rw (number-decimal n (10 ∷ []) a.0 refl, fields)
numbers_line n (m ∷ ns) a = rw (number-decimal n (32 ∷ number_line (m ∷ ns)) a.0 refl, fields, numbers_line m ns a.1)

-- the first number of a line, and the rest of it
record First (p : ℕ) (ps t fs : List ℕ) : Type 0 where
  value : ℕ
  rest : List ℕ
  more : List ℕ
  read : number t ≡ is value rest
  next : get_or rest 0 0 ≡ p
  others : fields ps (drop 1 rest) ≡ some more
  all : fs ≡ value ∷ more

pub none_is-not_some : {A : Type 0} (a : A) → none ≡ some a → ⊥
none_is-not_some a e = subst (λ o. elim o as (λ x. Type 0) [ none ↦ Unit {0} | some b ↦ ⊥ ]) e tt

first : (p : ℕ) (ps t fs : List ℕ) → fields (p ∷ ps) t ≡ some fs → First p ps t fs
unfolding fields prepend
first p ps t fs e = by (number t) refl
  where
    behind : (v : ℕ) (rest : List ℕ) → number t ≡ is v rest → get_or rest 0 0 ≡ p → (o : Option (List ℕ)) → fields ps (drop 1 rest) ≡ o
        → prepend v o ≡ some fs → First p ps t fs
    behind v rest f g none h k = absurd (none_is-not_some fs k)
    behind v rest f g (some more) h k = record { value = v; rest = rest; more = more; read = f; next = g; others = h; all = cc }

    with_number : (v : ℕ) (rest : List ℕ) → number t ≡ is v rest → (u : Bool) → eqb (get_or rest 0 0) p ≡ u → First p ps t fs
    with_number v rest f true g = behind v rest f (eqb-true _ _ g) (fields ps (drop 1 rest)) refl (rw (f, fields, g, fields) at e)
    with_number v rest f false g = absurd (none_is-not_some fs (rw (f, fields, g, fields) at e))

    by : (m : Num) → number t ≡ m → First p ps t fs
    by bad f = absurd (none_is-not_some fs (rw (f, fields) at e))
    by (is v rest) f = with_number v rest f (eqb (get_or rest 0 0) p) refl

pub starts : (p : ℕ) (t : List ℕ) → get_or t 0 0 ≡ p → 0 < p → t ≡ p ∷ drop 1 t
starts p [] e h = absurd (omega arith)
starts p (b ∷ t) e h = ap {B = List ℕ} (λ x. x ∷ t) e

no_fields : (t fs : List ℕ) → fields [] t ≡ some fs → (t ≡ []) × (fs ≡ [])
unfolding fields
no_fields [] fs e = (refl, cc)
no_fields (b ∷ t) fs e = absurd (none_is-not_some fs e)

last_number : (v : ℕ) (t rest more : List ℕ) → NumberIs t v rest → rest ≡ 10 ∷ drop 1 rest → drop 1 rest ≡ [] → more ≡ [] → LineIs 1 t (v ∷ more)
unfolding number_line
last_number v t rest more i r d m =
    let text : t ≡ decimal v ++ (10 ∷ []) = i.text ∙ ap {B = List ℕ} (λ x. decimal v ++ x) (r ∙ ap {B = List ℕ} (λ x. 10 ∷ x) d) in
    rw m (record { count = refl; text = text; below = (i.below, tt) })

one_number_more : (n v : ℕ) (t rest more : List ℕ) → NumberIs t v rest → rest ≡ 32 ∷ drop 1 rest → LineIs (suc n) (drop 1 rest) more
    → LineIs (suc (suc n)) t (v ∷ more)
unfolding number_line
one_number_more n v t rest [] i r l = absurd (omega (arith, l.count))
one_number_more n v t rest (m ∷ ms) i r l =
    record {
      count = ap suc l.count;
      text = i.text ∙ ap {B = List ℕ} (λ x. decimal v ++ x) (r ∙ ap {B = List ℕ} (λ x. 32 ∷ x) l.text);
      below = (i.below, l.below);
    }

pub numbers-is : (n : ℕ) (t fs : List ℕ) → numbers_of (suc n) t ≡ some fs → LineIs (suc n) t fs
unfolding numbers_of separators
numbers-is zero t fs e =
    let f : First 10 [] t fs = first 10 [] t fs e in
    let (d, m) = no_fields (drop 1 f.rest) f.more f.others in
    rw f.all (last_number f.value t f.rest f.more (number_is t f.value f.rest f.read) (starts 10 f.rest f.next (omega arith)) d m)
numbers-is (suc n) t fs e =
    let f : First 32 (separators (suc n)) t fs = first 32 (separators (suc n)) t fs e in
    rw f.all (one_number_more n f.value t f.rest f.more (number_is t f.value f.rest f.read)
    (starts 32 f.rest f.next (omega arith)) (numbers-is n (drop 1 f.rest) f.more f.others))
