-- Lines by their own rules, one after the other, and sections as runs of lines by one rule. Assumes nothing.
use Prim.Native.Nat.{ℕ, zero, suc, ◌+◌, ◌<◌}
use native.Mathlib.Omega.{arith}
use native.Mathlib.Nat.{add-zero, zero-add}
use mathlib.Core.List.{List, [], ◌∷◌, ◌++◌, append_assoc, append-nil}
use mathlib.Core.Path.{◌≡◌, refl, sym, ap, ◌∙◌}
use lib.ListN.{get_or}
use Rattle.circuit.specs.Outcome.{Outcome, taken, refused, ◌>>=◌}
use Rattle.reader.specs.Inner.AllLines.{lined}
use Rattle.text.specs.Line.{numbers_of}
use Rattle.text.specs.Rules.{Rule}
use Rattle.text.specs.Section.{Body, judged, with_row, section, onward}

bind_same : {A B : Type 0} (o : Outcome A) (f g : A → Outcome B) → ((a : A) → f a ≡ g a) → (o >>= f) ≡ (o >>= g)
bind_same (taken a) f g e = e a
bind_same (refused number place) f g e = refl

bind_assoc : {A B C : Type 0} (o : Outcome A) (k : A → Outcome C) (f : A → Outcome B) (g : B → Outcome C) → ((a : A) → k a ≡ (f a >>= g))
    → (o >>= k) ≡ ((o >>= f) >>= g)
bind_assoc (taken a) k f g e = e a
bind_assoc (refused number place) k f g e = refl

-- what was taken decides how reading goes on
through : {A B C D : Type 0} (o : Outcome A) (k : A → Outcome D) (f : A → B) (g : B → Outcome C) (end : C → Outcome D)
    → ((a : A) → o ≡ taken a → k a ≡ (g (f a) >>= end)) → (o >>= k) ≡ (((o >>= λ a. taken (f a)) >>= g) >>= end)
through (taken a) k f g end e = e a refl
through (refused number place) k f g end e = refl

lined_append : (rule : ℕ → Rule) (i n m : ℕ) (b : Body) → lined rule i (n + m) b ≡ (lined rule i n b >>= lined rule (i + n) m)
unfolding lined
lined_append rule i zero m b = rw (zero-add m, add-zero i)
lined_append rule i (suc n) m b =
    ap (λ (q : ℕ). lined rule i q b) more
    ∙ bind_assoc (judged (rule i) b.defined (2 + i) (numbers_of (rule i).count (get_or b.rest 0 [])))
    (λ fs. lined rule (suc i) (n + m) (with_row (rule i) b fs)) (λ fs. lined rule (suc i) n (with_row (rule i) b fs)) (lined rule (i + suc n) m)
    (λ fs. lined_append rule (suc i) n m (with_row (rule i) b fs) ∙ ap (λ (q : ℕ). lined rule (suc i) n (with_row (rule i) b fs) >>= lined rule q m) next)
  where
    more : suc n + m ≡ suc (n + m)
    more = omega arith

    next : suc i + n ≡ i + suc n
    next = omega arith

-- lines by one rule are a section
lined-section : (rule : ℕ → Rule) (r : Rule) (i n : ℕ) (b : Body) → ((j : ℕ) → j < n → rule (i + j) ≡ r) → lined rule i n b ≡ section r n (2 + i) b
unfolding lined section
lined-section rule r i zero b e = refl
lined-section rule r i (suc n) b e =
    ap (λ (q : Rule). judged q b.defined (2 + i) (numbers_of q.count (get_or b.rest 0 [])) >>= λ fs. lined rule (suc i) n (with_row q b fs))
    (ap rule (sym (add-zero i)) ∙ e 0 (omega arith))
    ∙ bind_same (judged r b.defined (2 + i) (numbers_of r.count (get_or b.rest 0 [])))
    (λ fs. lined rule (suc i) n (with_row r b fs)) (λ fs. section r n (suc (2 + i)) (with_row r b fs))
    (λ fs. lined-section rule r (suc i) n (with_row r b fs) (λ j h. ap rule (next j) ∙ e (suc j) (omega arith))
    ∙ ap (λ (p : ℕ). section r n p (with_row r b fs)) place)
  where
    next : (j : ℕ) → suc i + j ≡ i + suc j
    next j = omega arith

    place : 2 + suc i ≡ suc (2 + i)
    place = omega arith

-- the rows of one section behind those of another
unfoldable pub joined : Body → Body → Body
joined b c = record { rows = b.rows ++ c.rows; defined = c.defined; rest = c.rest }

section-behind : (r : Rule) (n place : ℕ) (xs ys : List (List ℕ)) (defined : List ℕ) (rest : List (List ℕ))
    → section r n place (record { rows = xs ++ ys; defined = defined; rest = rest }) ≡ (section r n place
    (record { rows = ys; defined = defined; rest = rest }) >>= λ c. taken (record { rows = xs ++ c.rows; defined = c.defined; rest = c.rest }))
unfolding section with_row
section-behind r zero place xs ys defined rest = refl
section-behind r (suc n) place xs ys defined rest =
    bind_assoc (judged r defined place (numbers_of r.count (get_or rest 0 [])))
    (λ fs. section r n (suc place) (with_row r (record { rows = xs ++ ys; defined = defined; rest = rest }) fs))
    (λ fs. section r n (suc place) (with_row r (record { rows = ys; defined = defined; rest = rest }) fs))
    (λ c. taken (record { rows = xs ++ c.rows; defined = c.defined; rest = c.rest }))
    (λ fs.
    let b = with_row r (record { rows = ys; defined = defined; rest = rest }) fs in
    ap (λ (rows : List (List ℕ)). section r n (suc place) (record { rows = rows; defined = b.defined; rest = b.rest })) (append_assoc xs ys (fs ∷ []))
    ∙ section-behind r n (suc place) xs (ys ++ (fs ∷ [])) b.defined b.rest)

section_after : (r : Rule) (n place : ℕ) (b : Body) → section r n place b ≡ (section r n place (onward b) >>= λ c. taken (joined b c))
unfolding joined onward
section_after r n place b =
    ap (λ (rows : List (List ℕ)). section r n place (record { rows = rows; defined = b.defined; rest = b.rest })) (sym (append-nil b.rows))
    ∙ section-behind r n place b.rows [] b.defined b.rest

-- a section, and the lines behind it
pub stage : {D : Type 0} (rule : ℕ → Rule) (r : Rule) (i n m place : ℕ) (b : Body) (k : Body → Outcome D) (end : Body → Outcome D) → place ≡ 2 + i
    → ((j : ℕ) → j < n → rule (i + j) ≡ r) → ((c : Body) → section r n place (onward b) ≡ taken c → k c ≡ (lined rule (i + n) m (joined b c) >>= end))
    → (section r n place (onward b) >>= k) ≡ (lined rule i (n + m) b >>= end)
stage rule r i n m place b k end p e goes =
    through (section r n place (onward b)) k (joined b) (lined rule (i + n) m) end goes
    ∙ ap (λ (o : Outcome Body). (o >>= lined rule (i + n) m) >>= end) (sym (lined-section rule r i n b e ∙ ap (λ (q : ℕ). section r n q b) (sym p)
    ∙ section_after r n place b))
    ∙ ap (λ (o : Outcome Body). o >>= end) (sym (lined_append rule i n m b))
