-- The lines of a section: taken exactly if each is a line of numbers in which its rule finds no fault. Assumes nothing.
use Prim.Native.Nat.{ℕ, zero, suc, ◌^◌}
use native.Mathlib.Omega.{arith}
use mathlib.Core.Bool.{cond}
use mathlib.Core.List.{List, [], ◌∷◌, ◌++◌, map, append-nil, append_assoc}
use mathlib.Core.Option.{Option, none, some}
use mathlib.Core.Path.{◌≡◌, refl, sym, ap, ◌∙◌, subst}
use lib.ListN.{length, get_or, drop}
use Rattle.bits.specs.Digits.{AllBelow}
use Rattle.circuit.specs.Literal.{variable}
use Rattle.circuit.specs.Outcome.{taken}
use Rattle.text.specs.Line.{numbers_of}
use Rattle.text.specs.LineIs.{LineIs}
use Rattle.text.specs.Numbers.{bad_line}
use Rattle.text.specs.Rules.{Rule}
use Rattle.text.specs.Section.{judged, Body, with_row, section}
use Rattle.text.specs.Written.{number_line}
use Rattle.text.proofs.Laws.Line.{numbers_line, numbers-is, number_line_some}
use Rattle.text.proofs.Laws.Outcome.{refused_is-not_taken, bind_taken}

-- what a line of these numbers defines
abbrev pub news : Rule → List (List ℕ) → List ℕ
news rule [] = []
news rule (fs ∷ rows) = cond rule.defines (variable (get_or fs 0 0) ∷ []) [] ++ news rule rows

-- numbers in which a rule finds no fault, where these variables are defined above
pub record Fine (rule : Rule) (defined fs : List ℕ) : Type 0 where
  pub count : length fs ≡ rule.count
  pub below : AllBelow (10 ^ 7) fs
  pub fine : rule.fault defined fs ≡ none

abbrev pub AllFine : Rule → List ℕ → List (List ℕ) → Type 0
AllFine rule defined [] = Unit {0}
AllFine rule defined (fs ∷ rows) = Fine rule defined fs × AllFine rule (defined ++ cond rule.defines (variable (get_or fs 0 0) ∷ []) []) rows

judged_fine : (rule : Rule) (c : ℕ) (defined fs : List ℕ) (place : ℕ) → rule.count ≡ suc c → Fine rule defined fs
    → judged rule defined place (numbers_of rule.count (number_line fs)) ≡ taken fs
unfolding judged
judged_fine rule c defined [] place e f = absurd (omega (arith, f.count))
judged_fine rule c defined (n ∷ ns) place e f =
    let same : rule.count ≡ suc (length ns) = sym f.count in
    let found : numbers_of rule.count (number_line (n ∷ ns)) ≡ some (n ∷ ns) =
    ap (λ (k : ℕ). numbers_of k (number_line (n ∷ ns))) same ∙ numbers_line n ns f.below in
    rw (found, judged, f.fine, judged)

pub section_fine : (rule : Rule) (c : ℕ) (rows : List (List ℕ)) (place : ℕ) (old : List (List ℕ)) (defined : List ℕ) (rest : List (List ℕ))
    → rule.count ≡ suc c → AllFine rule defined rows → section rule (length rows) place
    (record { rows = old; defined = defined; rest = map number_line rows ++ rest }) ≡ taken
    (record { rows = old ++ rows; defined = defined ++ news rule rows; rest = rest })
unfolding section with_row
section_fine rule c [] place old defined rest e f = λ x. taken (record { rows = sym (append-nil old) x; defined = sym (append-nil defined) x; rest = rest })
section_fine rule c (fs ∷ rows) place old defined rest e f =
    let new : List ℕ = cond rule.defines (variable (get_or fs 0 0) ∷ []) [] in
    let here : judged rule defined place (numbers_of rule.count (number_line fs)) ≡ taken fs = judged_fine rule c defined fs place e f.0 in
    rw here
    (section_fine rule c rows (suc place) (old ++ (fs ∷ [])) (defined ++ new) rest e f.1
    ∙ λ x. taken (record { rows = append_assoc old (fs ∷ []) rows x; defined = append_assoc defined new (news rule rows) x; rest = rest }))

-- a line that was judged fine
pub judged-is : (rule : Rule) (c : ℕ) (defined : List ℕ) (place : ℕ) (line fs : List ℕ) → rule.count ≡ suc c
    → judged rule defined place (numbers_of rule.count line) ≡ taken fs → Fine rule defined fs × (line ≡ number_line fs)
unfolding judged
judged-is rule c defined place line fs e t = by (numbers_of rule.count line) refl
  where
    with_fault : (gs : List ℕ) → numbers_of rule.count line ≡ some gs → (o : Option ℕ) → rule.fault defined gs ≡ o → Fine rule defined fs
        × (line ≡ number_line fs)
    with_fault gs f none g =
        let same : gs ≡ fs = (let k : taken gs ≡ taken fs = (rw (f, judged, g, judged) at t) in cc) in
        let is : LineIs (suc c) line gs = numbers-is c line gs (rw e at f) in
        rw (← same) (record { count = is.count ∙ sym e; below = is.below; fine = g }, is.text)
    with_fault gs f (some number) g = absurd (refused_is-not_taken number place fs (rw (f, judged, g, judged) at t))

    by : (o : Option (List ℕ)) → numbers_of rule.count line ≡ o → Fine rule defined fs × (line ≡ number_line fs)
    by none f = absurd (refused_is-not_taken bad_line place fs (rw (f, judged) at t))
    by (some gs) f = with_fault gs f (rule.fault defined gs) refl

-- lines that were taken
pub record Taken (rule : Rule) (n : ℕ) (b after : Body) : Type 0 where
  pub rows : List (List ℕ)
  pub count : length rows ≡ n
  pub all : after.rows ≡ b.rows ++ rows
  pub defined : after.defined ≡ b.defined ++ news rule rows
  pub lines : b.rest ≡ map number_line rows ++ after.rest
  pub fine : AllFine rule b.defined rows

-- a line of numbers isn't empty, so it was there
line_there : (ls : List (List ℕ)) (fs : List ℕ) → get_or ls 0 [] ≡ number_line fs → ls ≡ number_line fs ∷ drop 1 ls
line_there [] fs e = absurd (omega (arith, ap length e, number_line_some fs))
line_there (l ∷ ls) fs e = ap {B = List (List ℕ)} (λ x. x ∷ ls) e

one_line_more : (rule : Rule) (n : ℕ) (b after : Body) (fs : List ℕ) → Fine rule b.defined fs → get_or b.rest 0 [] ≡ number_line fs
    → Taken rule n (with_row rule b fs) after → Taken rule (suc n) b after
unfolding with_row
one_line_more rule n b after fs f line t =
    let new : List ℕ = cond rule.defines (variable (get_or fs 0 0) ∷ []) [] in
    record {
      rows = fs ∷ t.rows;
      count = ap suc t.count;
      all = t.all ∙ append_assoc b.rows (fs ∷ []) t.rows;
      defined = t.defined ∙ append_assoc b.defined new (news rule t.rows);
      lines = line_there b.rest fs line ∙ ap {B = List (List ℕ)} (λ x. number_line fs ∷ x) t.lines;
      fine = (f, t.fine);
    }

pub section-is : (rule : Rule) (c n place : ℕ) (b after : Body) → rule.count ≡ suc c → section rule n place b ≡ taken after → Taken rule n b after
unfolding section
section-is rule c zero place b after e t =
    let same : b ≡ after = (cc) in
    rw (← same) (record { rows = []; count = refl; all = sym (append-nil b.rows); defined = sym (append-nil b.defined); lines = refl; fine = tt })
section-is rule c (suc n) place b after e t =
    let (fs, here, there) = bind_taken (judged rule b.defined place (numbers_of rule.count (get_or b.rest 0 [])))
    (λ gs. section rule n (suc place) (with_row rule b gs)) after t in
    let (f, line) = judged-is rule c b.defined place (get_or b.rest 0 []) fs e here in
    one_line_more rule n b after fs f line (section-is rule c n (suc place) (with_row rule b fs) after e there)

-- a section that was taken from its start
pub record Whole (rule : Rule) (n : ℕ) (defined : List ℕ) (rest : List (List ℕ)) (after : Body) : Type 0 where
  pub count : length after.rows ≡ n
  pub known : after.defined ≡ defined ++ news rule after.rows
  pub lines : rest ≡ map number_line after.rows ++ after.rest
  pub fine : AllFine rule defined after.rows

pub section-whole : (rule : Rule) (c n place : ℕ) (defined : List ℕ) (rest : List (List ℕ)) (after : Body) → rule.count ≡ suc c
    → section rule n place (record { rows = []; defined = defined; rest = rest }) ≡ taken after → Whole rule n defined rest after
section-whole rule c n place defined rest after e s =
    let t : Taken rule n (record { rows = []; defined = defined; rest = rest }) after =
    section-is rule c n place (record { rows = []; defined = defined; rest = rest }) after e s in
    record {
      count = ap length t.all ∙ t.count;
      known = t.defined ∙ ap (λ (r : List (List ℕ)). defined ++ news rule r) (sym t.all);
      lines = t.lines ∙ ap (λ (r : List (List ℕ)). map number_line r ++ after.rest) (sym t.all);
      fine = subst (AllFine rule defined) (sym t.all) t.fine;
    }
