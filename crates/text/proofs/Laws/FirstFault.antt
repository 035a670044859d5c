-- Where the lines before the symbols are refused: at the first line with a fault, all lines above it right (01, "The numbers": lines in file
-- order). A section is lines of one kind. Assumes nothing.
use Prim.Native.Nat.{ℕ, zero, suc, ◌+◌, ◌≤◌}
use native.Mathlib.Omega.{arith}
use mathlib.Core.List.{List, [], ◌∷◌, ◌++◌, append-nil, append_assoc}
use mathlib.Core.Logic.{inl, inr}
use mathlib.Core.Path.{◌≡◌, refl, sym, ap, ◌∙◌, subst}
use lib.ListN.{length, get_or, drop, replicate}
use lib.Seq.{drop-nil}
use Rattle.circuit.specs.Outcome.{taken, refused}
use Rattle.text.specs.FirstFault.{AllRight, FirstFault}
use Rattle.text.specs.Kind.{Kind, defined_by, defined_by_all}
use Rattle.text.specs.Section.{Body, with_row, section}
use Rattle.text.proofs.Laws.LineFault.{rule_of, row_defines, line_judged, judged_fault, judged_right, fault_judged, right_judged, fault_range}
use Rattle.text.proofs.Laws.Outcome.{taken_is-not_refused, taken_is, bind_taken, bind_refused}

pub drop_one_more : (n : ℕ) (ls : List (List ℕ)) → drop n (drop 1 ls) ≡ drop (suc n) ls
drop_one_more n [] = drop-nil n
drop_one_more n (l ∷ ls) = refl

-- how far reading has come
abbrev pub body : (rows : List (List ℕ)) (defined : List ℕ) (rest : List (List ℕ)) → Body
body rows defined rest = record { rows = rows; defined = defined; rest = rest }

module _ (M : ℕ) (k : Kind) where
  next_row : (rows : List (List ℕ)) (defined : List ℕ) (ls : List (List ℕ)) (fs : List ℕ)
      → with_row (rule_of k M) (body rows defined ls) fs ≡ body (rows ++ (fs ∷ [])) (defined ++ defined_by k fs) (drop 1 ls)
  unfolding with_row
  next_row rows defined ls fs = λ x. body (rows ++ (fs ∷ [])) (defined ++ row_defines k M fs x) (drop 1 ls)

  -- a section is refused at its first fault
  pub section-first : (n start : ℕ) (rows : List (List ℕ)) (defined : List ℕ) (ls : List (List ℕ)) (number place : ℕ)
      → section (rule_of k M) n start (body rows defined ls) ≡ refused number place → FirstFault M (replicate n k) defined ls start number place
  unfolding section
  section-first zero start rows defined ls number place e = taken_is-not_refused number place (body rows defined ls) e
  section-first (suc n) start rows defined ls number place e =
      elim (bind_refused (line_judged k M defined start (get_or ls 0 []))
      (λ fs. section (rule_of k M) n (suc start) (with_row (rule_of k M) (body rows defined ls) fs)) number place e) [
        | inl r ↦ inl (judged_fault k M defined (get_or ls 0 []) start number place r)
        | inr t ↦
            inr (
              t.0,
              judged_right k M defined (get_or ls 0 []) start t.0 t.1,
              section-first n (suc start) (rows ++ (t.0 ∷ [])) (defined ++ defined_by k t.0) (drop 1 ls) number place
                  (subst (λ (b : Body). section (rule_of k M) n (suc start) b ≡ refused number place) (next_row rows defined ls t.0) t.2),
            )
      ]

  pub first-section : (n start : ℕ) (rows : List (List ℕ)) (defined : List ℕ) (ls : List (List ℕ)) (number place : ℕ)
      → FirstFault M (replicate n k) defined ls start number place → section (rule_of k M) n start (body rows defined ls) ≡ refused number place
  unfolding section
  first-section zero start rows defined ls number place w = absurd w
  first-section (suc n) start rows defined ls number place (inl (p, f)) =
      rw (fault_judged k M defined (get_or ls 0 []) start number f) (λ x. refused number (sym p x))
  first-section (suc n) start rows defined ls number place (inr (fs, r, more)) =
      rw (right_judged k M defined (get_or ls 0 []) start fs r)
      (ap (section (rule_of k M) n (suc start)) (next_row rows defined ls fs)
      ∙ first-section n (suc start) (rows ++ (fs ∷ [])) (defined ++ defined_by k fs) (drop 1 ls) number place more)

  -- and taken where all its lines are right
  abbrev after : ℕ → (rows more : List (List ℕ)) (defined : List ℕ) (ls : List (List ℕ)) → Body
  after n rows more defined ls = body (rows ++ more) (defined ++ defined_by_all (replicate n k) more) (drop n ls)

  behind_row : (n : ℕ) (rows more : List (List ℕ)) (defined : List ℕ) (ls : List (List ℕ)) (fs : List ℕ)
      → after n (rows ++ (fs ∷ [])) more (defined ++ defined_by k fs) (drop 1 ls) ≡ after (suc n) rows (fs ∷ more) defined ls
  behind_row n rows more defined ls fs =
      λ x. body (append_assoc rows (fs ∷ []) more x) (append_assoc defined (defined_by k fs) (defined_by_all (replicate n k) more) x) (drop_one_more n ls x)

  pub section_right : (n start : ℕ) (rows : List (List ℕ)) (defined : List ℕ) (ls : List (List ℕ)) (b : Body)
      → section (rule_of k M) n start (body rows defined ls) ≡ taken b → (more : List (List ℕ)) × AllRight M (replicate n k) defined ls more
      × (b ≡ body (rows ++ more) (defined ++ defined_by_all (replicate n k) more) (drop n ls))
  unfolding section
  section_right zero start rows defined ls b e = (
    [],
    tt,
    sym (taken_is (body rows defined ls) b e)
        ∙ λ x. body (sym (append-nil rows) x) (sym (append-nil defined) x) ls,
  )
  section_right (suc n) start rows defined ls b e =
      let (fs, here, there) = bind_taken (line_judged k M defined start (get_or ls 0 []))
      (λ gs. section (rule_of k M) n (suc start) (with_row (rule_of k M) (body rows defined ls) gs)) b e in
      let (more, right, is) = section_right n (suc start) (rows ++ (fs ∷ [])) (defined ++ defined_by k fs) (drop 1 ls) b
      (subst (λ (c : Body). section (rule_of k M) n (suc start) c ≡ taken b) (next_row rows defined ls fs) there) in
      (fs ∷ more, (judged_right k M defined (get_or ls 0 []) start fs here, right), is ∙ behind_row n rows more defined ls fs)

  pub right_section : (n start : ℕ) (rows more : List (List ℕ)) (defined : List ℕ) (ls : List (List ℕ)) → AllRight M (replicate n k) defined ls more
      → section (rule_of k M) n start (body rows defined ls) ≡ taken (body (rows ++ more) (defined ++ defined_by_all (replicate n k) more) (drop n ls))
  unfolding section
  right_section zero start rows [] defined ls w = λ x. taken (body (sym (append-nil rows) x) (sym (append-nil defined) x) ls)
  right_section zero start rows (fs ∷ more) defined ls w = absurd w
  right_section (suc n) start rows [] defined ls w = absurd w
  right_section (suc n) start rows (fs ∷ more) defined ls w =
      rw (right_judged k M defined (get_or ls 0 []) start fs w.0)
      (ap (section (rule_of k M) n (suc start)) (next_row rows defined ls fs)
      ∙ right_section n (suc start) (rows ++ (fs ∷ [])) more (defined ++ defined_by k fs) (drop 1 ls) w.1
      ∙ λ x. taken (behind_row n rows more defined ls fs x))

  pub right_length : (n : ℕ) (rows : List (List ℕ)) (defined : List ℕ) (ls : List (List ℕ)) → AllRight M (replicate n k) defined ls rows → length rows ≡ n
  right_length zero [] defined ls w = refl
  right_length zero (fs ∷ rows) defined ls w = absurd w
  right_length (suc n) [] defined ls w = absurd w
  right_length (suc n) (fs ∷ rows) defined ls w = ap suc (right_length n rows (defined ++ defined_by k fs) (drop 1 ls) w.1)

  -- lines of one kind, then others
  module _ (js : List Kind) (number place : ℕ) where
    pub first_front : (n at : ℕ) (defined : List ℕ) (ls : List (List ℕ)) → FirstFault M (replicate n k) defined ls at number place
        → FirstFault M (replicate n k ++ js) defined ls at number place
    first_front zero at defined ls w = absurd w
    first_front (suc n) at defined ls (inl f) = inl f
    first_front (suc n) at defined ls (inr (fs, r, more)) = inr (fs, r, first_front n (suc at) (defined ++ defined_by k fs) (drop 1 ls) more)

    pub first-behind : (n at : ℕ) (defined : List ℕ) (ls rows : List (List ℕ)) (q : ℕ) (known : List ℕ) (rest : List (List ℕ))
        → AllRight M (replicate n k) defined ls rows → q ≡ at + n → known ≡ defined ++ defined_by_all (replicate n k) rows → rest ≡ drop n ls
        → FirstFault M js known rest q number place → FirstFault M (replicate n k ++ js) defined ls at number place
    first-behind zero at defined ls [] q known rest w a b c f =
        let here : q ≡ at = omega (arith, a) in
        let same : known ≡ defined = b ∙ append-nil defined in
        subst (λ (p : ℕ). FirstFault M js defined ls p number place) here
        (subst (λ (d : List ℕ). FirstFault M js d ls q number place) same (subst (λ (r : List (List ℕ)). FirstFault M js known r q number place) c f))
    first-behind zero at defined ls (fs ∷ rows) q known rest w a b c f = absurd w
    first-behind (suc n) at defined ls [] q known rest w a b c f = absurd w
    first-behind (suc n) at defined ls (fs ∷ rows) q known rest w a b c f =
        inr (
          fs,
          w.0,
          first-behind n (suc at) (defined ++ defined_by k fs) (drop 1 ls) rows q known rest w.1 (omega (arith, a))
              (b ∙ sym (append_assoc defined (defined_by k fs) (defined_by_all (replicate n k) rows))) (c ∙ sym (drop_one_more n ls)) f,
        )

    -- the first fault is among them, or all are right and it is among the others
    pub data Where (n at : ℕ) (defined : List ℕ) (ls : List (List ℕ)) : Type 0 where
      front : FirstFault M (replicate n k) defined ls at number place → Where n at defined ls
      behind : (rows : List (List ℕ)) → AllRight M (replicate n k) defined ls rows
          → FirstFault M js (defined ++ defined_by_all (replicate n k) rows) (drop n ls) (at + n) number place → Where n at defined ls

    pub where_first : (n at : ℕ) (defined : List ℕ) (ls : List (List ℕ)) → FirstFault M (replicate n k ++ js) defined ls at number place → Where n at defined ls
    where_first zero at defined ls f =
        let here : at ≡ at + 0 = omega arith in
        behind [] tt (subst (λ (p : ℕ). FirstFault M js (defined ++ []) ls p number place) here
        (subst (λ (d : List ℕ). FirstFault M js d ls at number place) (sym (append-nil defined)) f))
    where_first (suc n) at defined ls (inl f) = front (inl f)
    where_first (suc n) at defined ls (inr (fs, r, more)) = by (where_first n (suc at) (defined ++ defined_by k fs) (drop 1 ls) more)
      where
        by : Where n (suc at) (defined ++ defined_by k fs) (drop 1 ls) → Where (suc n) at defined ls
        by (front f) = front (inr (fs, r, f))
        by (behind rows w f) =
            let here : suc at + n ≡ at + suc n = omega arith in
            behind (fs ∷ rows) (r, w)
            (subst (λ (p : ℕ). FirstFault M js (defined ++ (defined_by k fs ++ defined_by_all (replicate n k) rows)) (drop (suc n) ls) p number place) here
            (subst (λ (d : List ℕ). FirstFault M js d (drop (suc n) ls) (suc at + n) number place)
            (append_assoc defined (defined_by k fs) (defined_by_all (replicate n k) rows))
            (subst (λ (rest : List (List ℕ)). FirstFault M js ((defined ++ defined_by k fs) ++ defined_by_all (replicate n k) rows) rest (suc at + n)
            number place) (drop_one_more n ls) f)))

  module _ (js : List Kind) where
    pub right_join : (n : ℕ) (defined : List ℕ) (ls rows more : List (List ℕ)) → AllRight M (replicate n k) defined ls rows
        → AllRight M js (defined ++ defined_by_all (replicate n k) rows) (drop n ls) more → AllRight M (replicate n k ++ js) defined ls (rows ++ more)
    right_join zero defined ls [] more w v = subst (λ (d : List ℕ). AllRight M js d ls more) (append-nil defined) v
    right_join zero defined ls (fs ∷ rows) more w v = absurd w
    right_join (suc n) defined ls [] more w v = absurd w
    right_join (suc n) defined ls (fs ∷ rows) more w v = (
      w.0,
      right_join n (defined ++ defined_by k fs) (drop 1 ls) rows more w.1
          (subst (λ (d : List ℕ). AllRight M js d (drop n (drop 1 ls)) more)
          (sym (append_assoc defined (defined_by k fs) (defined_by_all (replicate n k) rows)))
          (subst (λ (rest : List (List ℕ)). AllRight M js (defined ++ (defined_by k fs ++ defined_by_all (replicate n k) rows)) rest more)
          (sym (drop_one_more n ls)) v)),
    )

    pub record Split (n : ℕ) (defined : List ℕ) (ls all : List (List ℕ)) : Type 0 where
      pub rows : List (List ℕ)
      pub more : List (List ℕ)
      pub whole : all ≡ rows ++ more
      pub right : AllRight M (replicate n k) defined ls rows
      pub others : AllRight M js (defined ++ defined_by_all (replicate n k) rows) (drop n ls) more

    pub right_split : (n : ℕ) (defined : List ℕ) (ls all : List (List ℕ)) → AllRight M (replicate n k ++ js) defined ls all → Split n defined ls all
    right_split zero defined ls all w = record {
      rows = [];
      more = all;
      whole = refl;
      right = tt;
      others =
          subst (λ (d : List ℕ). AllRight M js d ls all) (sym (append-nil defined)) w;
    }
    right_split (suc n) defined ls [] w = absurd w
    right_split (suc n) defined ls (fs ∷ all) w =
        let s : Split n (defined ++ defined_by k fs) (drop 1 ls) all = right_split n (defined ++ defined_by k fs) (drop 1 ls) all w.1 in
        record {
          rows = fs ∷ s.rows;
          more = s.more;
          whole = ap {B = List (List ℕ)} (λ r. fs ∷ r) s.whole;
          right = (w.0, s.right);
          others =
              subst (λ (d : List ℕ). AllRight M js d (drop (suc n) ls) s.more)
              (append_assoc defined (defined_by k fs) (defined_by_all (replicate n k) s.rows))
              (subst (λ (rest : List (List ℕ)). AllRight M js ((defined ++ defined_by k fs) ++ defined_by_all (replicate n k) s.rows) rest s.more)
              (drop_one_more n ls) s.others);
        }

    -- what they define
    pub defined_join : (n : ℕ) (rows more : List (List ℕ)) → length rows ≡ n
        → defined_by_all (replicate n k ++ js) (rows ++ more) ≡ defined_by_all (replicate n k) rows ++ defined_by_all js more
    defined_join zero [] more e = refl
    defined_join zero (fs ∷ rows) more e = absurd (omega (arith, e))
    defined_join (suc n) [] more e = absurd (omega (arith, e))
    defined_join (suc n) (fs ∷ rows) more e =
        ap {B = List ℕ} (λ d. defined_by k fs ++ d) (defined_join n rows more (omega (arith, e)))
        ∙ sym (append_assoc (defined_by k fs) (defined_by_all (replicate n k) rows) (defined_by_all js more))

-- the numbers of these faults are 4 to 6
pub first_range : (M : ℕ) (ks : List Kind) (defined : List ℕ) (ls : List (List ℕ)) (at number place : ℕ) → FirstFault M ks defined ls at number place
    → (4 ≤ number) × (number ≤ 6)
first_range M [] defined ls at number place w = absurd w
first_range M (k ∷ ks) defined ls at number place (inl f) = fault_range M k defined (get_or ls 0 []) number f.1
first_range M (k ∷ ks) defined ls at number place (inr (fs, r, more)) = first_range M ks (defined ++ defined_by k fs) (drop 1 ls) (suc at) number place more
