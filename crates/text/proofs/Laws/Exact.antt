-- Refusals are exact (01, "The numbers", 1 to 9; 02, T-01: 16): each number is given exactly when the table says so, in its order and at its place.
-- Assumes nothing.
use Prim.Native.Nat.{ℕ, ◌+◌, ◌<◌, ◌≤◌}
use native.Mathlib.Omega.{arith}
use mathlib.Core.Bool.{Bool, true, false, ◌||◌, true≢false}
use mathlib.Core.List.{List, []}
use mathlib.Core.Logic.{◌⊎◌, inl, inr, ◌↔◌}
use mathlib.Core.Option.{Option, none, some}
use mathlib.Core.Path.{◌≡◌, refl, sym, ap, ◌∙◌, subst₂}
use lib.Dec.{ltb}
use lib.ListN.{length, get_or, drop}
use borrow.Author.Tests.{ltb-true, ltb-false, lt-ltb, le-ltb}
use Rattle.circuit.specs.Circuit.{Circuit, uncontrollable_count, controllable_count, too_many}
use Rattle.circuit.specs.Limits.{Limits}
use Rattle.circuit.specs.Outcome.{Outcome, taken, refused, refuse_if}
use Rattle.text.specs.BodyBroken.{gates_on, WellUsed, BodyBroken, in_lines, in_use, in_circle, in_symbols}
use Rattle.text.specs.Circle.{Circle}
use Rattle.text.specs.Crowded.{Crowded, many_uncontrollable, many_controllable}
use Rattle.text.specs.FirstFault.{AllRight, FirstFault}
use Rattle.text.specs.Headed.{Headed, Headless}
use Rattle.text.specs.Header.{Header, header_numbers, header_of, within_limits}
use Rattle.text.specs.InList.{All}
use Rattle.text.specs.Kind.{kinds, defined_by_all, used_by_all}
use Rattle.text.specs.Line.{lines}
use Rattle.text.specs.NoSymbol.{NoSymbol}
use Rattle.text.specs.Numbers.{
  file_too_long,
  bad_header,
  header_limit,
  bad_line,
  bad_literal,
  defined_twice,
  not_defined,
  bad_symbol,
  too_many_inputs,
  gate_circle,
}
use Rattle.text.specs.Read.{or_bad_header, lines_read, file_read, circuit_read}
use Rattle.text.specs.Row.{Begun, Row, one, two, three, four_to_eight, nine}
use Rattle.text.specs.TextFile.{TextFile, circuit_of}
use Rattle.text.specs.Unknown.{Unknown}
use Rattle.text.specs.WellFormed.{Known}
use Rattle.text.specs.Within.{Within}
use Rattle.text.proofs.Laws.BodyBroken.{lines_broken, broken_lines, body_range}
use Rattle.text.proofs.Laws.FirstFault.{first_range}
use Rattle.text.proofs.Laws.Header.{read_headed, headed_read, within_is, within_of}
use Rattle.text.proofs.Laws.Line.{none_is-not_some}
use Rattle.text.proofs.Laws.Lists.{either}
use Rattle.text.proofs.Laws.Outcome.{taken_is-not_refused, taken_is, refused_number, refused_place}

-- the test for 9 says its statement
too_many-says : (limits : Limits) (c : Circuit) → (too_many limits c ≡ true) ↔ Crowded limits c
unfolding too_many
too_many-says limits c = (λ e. to (either a b e), back)
  where
    a : Bool
    a = ltb limits.uncontrollable (uncontrollable_count c)

    b : Bool
    b = ltb limits.controllable (controllable_count c)

    to : (a ≡ true) ⊎ (b ≡ true) → Crowded limits c
    to (inl e) = many_uncontrollable (ltb-true _ _ e)
    to (inr e) = many_controllable (ltb-true _ _ e)

    second : (t : Bool) → b ≡ true → (t || b) ≡ true
    second true e = refl
    second false e = e

    back : Crowded limits c → (a || b) ≡ true
    back (many_uncontrollable h) = ap (λ (t : Bool). t || b) (lt-ltb _ _ h)
    back (many_controllable h) = second a (lt-ltb _ _ h)

module _ (limits : Limits) (bytes : List ℕ) where
  too_long : limits.file < length bytes → circuit_read limits bytes ≡ refused file_too_long 0
  unfolding circuit_read file_read refuse_if
  too_long a = rw (lt-ltb limits.file (length bytes) a)

  no_header : length bytes ≤ limits.file → Headless bytes → circuit_read limits bytes ≡ refused bad_header 1
  unfolding circuit_read file_read refuse_if or_bad_header
  no_header a n = by (header_numbers (get_or (lines bytes) 0 [])) refl
    where
      by : (o : Option (List ℕ)) → header_numbers (get_or (lines bytes) 0 []) ≡ o → circuit_read limits bytes ≡ refused bad_header 1
      by none e = rw (le-ltb limits.file (length bytes) a, e)
      by (some fs) e = absurd (n (header_of fs) (read_headed bytes fs e))

  past_limit : length bytes ≤ limits.file → (h : Header) → Headed bytes h → (Within limits h → ⊥) → circuit_read limits bytes ≡ refused header_limit 1
  unfolding circuit_read file_read refuse_if or_bad_header header_of
  past_limit a h t n = by (within_limits limits h) refl
    where
      by : (u : Bool) → within_limits limits h ≡ u → circuit_read limits bytes ≡ refused header_limit 1
      by true e = absurd (n (within_is limits h e))
      by false e = rw (le-ltb limits.file (length bytes) a, headed_read bytes h t, e)

  -- behind a good header the rest decides
  pub begun_read : (h : Header) → Begun limits bytes h → file_read limits bytes ≡ lines_read h (drop 1 (lines bytes))
  unfolding file_read refuse_if or_bad_header header_of
  begun_read h b = rw (le-ltb limits.file (length bytes) b.short, headed_read bytes h b.headed, within_of limits h b.within)

  body_refused : (h : Header) (number place : ℕ) → Begun limits bytes h → BodyBroken h (drop 1 (lines bytes)) number place
      → circuit_read limits bytes ≡ refused number place
  unfolding circuit_read
  body_refused h number place b k = rw (begun_read h b, broken_lines h (drop 1 (lines bytes)) number place k)

  crowded_refused : (f : TextFile) → file_read limits bytes ≡ taken f → Crowded limits (circuit_of f) → circuit_read limits bytes ≡ refused too_many_inputs 0
  unfolding circuit_read refuse_if
  crowded_refused f e w = rw (e, (too_many-says limits (circuit_of f)).1 w)

  circuit_taken : (f : TextFile) → file_read limits bytes ≡ taken f → too_many limits (circuit_of f) ≡ false → circuit_read limits bytes ≡ taken (circuit_of f)
  unfolding circuit_read refuse_if
  circuit_taken f e t = rw (e, t)

  -- how reading came out, in the order of the numbers
  pub data Came : Type 0 where
    long : limits.file < length bytes → Came
    headless : length bytes ≤ limits.file → Headless bytes → Came
    limited : length bytes ≤ limits.file → (h : Header) → Headed bytes h → (Within limits h → ⊥) → Came
    broken : (h : Header) (number place : ℕ) → Begun limits bytes h → BodyBroken h (drop 1 (lines bytes)) number place → Came
    crowded : (f : TextFile) → file_read limits bytes ≡ taken f → Crowded limits (circuit_of f) → Came
    fine : (f : TextFile) → file_read limits bytes ≡ taken f → too_many limits (circuit_of f) ≡ false → Came

  came_body : (h : Header) → Begun limits bytes h → Came
  came_body h b = by (lines_read h (drop 1 (lines bytes))) refl
    where
      counted : (f : TextFile) → file_read limits bytes ≡ taken f → (u : Bool) → too_many limits (circuit_of f) ≡ u → Came
      counted f e true t = crowded f e ((too_many-says limits (circuit_of f)).0 t)
      counted f e false t = fine f e t

      by : (o : Outcome TextFile) → lines_read h (drop 1 (lines bytes)) ≡ o → Came
      by (refused number place) e = broken h number place b (lines_broken h (drop 1 (lines bytes)) number place e)
      by (taken f) e = counted f (begun_read h b ∙ e) (too_many limits (circuit_of f)) refl

  pub came : Came
  came = by (ltb limits.file (length bytes)) refl
    where
      judged : length bytes ≤ limits.file → (h : Header) → Headed bytes h → (u : Bool) → within_limits limits h ≡ u → Came
      judged a h t true e = came_body h (record { short = a; headed = t; within = within_is limits h e })
      judged a h t false e = limited a h t (λ w. true≢false (sym (within_of limits h w) ∙ e))

      first : length bytes ≤ limits.file → (o : Option (List ℕ)) → header_numbers (get_or (lines bytes) 0 []) ≡ o → Came
      first a none e = headless a (λ h t. none_is-not_some _ (sym e ∙ headed_read bytes h t))
      first a (some fs) e = judged a (header_of fs) (read_headed bytes fs e) (within_limits limits (header_of fs)) refl

      by : (u : Bool) → ltb limits.file (length bytes) ≡ u → Came
      by true e = long (ltb-true _ _ e)
      by false e = first (ltb-false _ _ e) (header_numbers (get_or (lines bytes) 0 [])) refl

  row_refused : (number place : ℕ) → Row limits bytes number place → circuit_read limits bytes ≡ refused number place
  row_refused number place (one n p a) = rw (n, p) (too_long a)
  row_refused number place (two n p a b) = rw (n, p) (no_header a b)
  row_refused number place (three n p a h t w) = rw (n, p) (past_limit a h t w)
  row_refused number place (four_to_eight h b k) = body_refused h number place b k
  row_refused number place (nine n p f e t) = rw (n, p) (crowded_refused f e t)

  -- two refusals of one file are the same
  same : (number place m q : ℕ) → circuit_read limits bytes ≡ refused number place → circuit_read limits bytes ≡ refused m q → (number ≡ m) × (place ≡ q)
  same number place m q e f = (refused_number number place m q (sym e ∙ f), refused_place number place m q (sym e ∙ f))

  refused_row : (number place : ℕ) → circuit_read limits bytes ≡ refused number place → Row limits bytes number place
  refused_row number place e = by came
    where
      by : Came → Row limits bytes number place
      by (long a) = let (n, p) = same number place file_too_long 0 e (too_long a) in one n p a
      by (headless a b) = let (n, p) = same number place bad_header 1 e (no_header a b) in two n p a b
      by (limited a h t w) = let (n, p) = same number place header_limit 1 e (past_limit a h t w) in three n p a h t w
      by (broken h m q b k) =
          let (n, p) = same number place m q e (body_refused h m q b k) in
          four_to_eight h b (subst₂ (λ (x y : ℕ). BodyBroken h (drop 1 (lines bytes)) x y) (sym n) (sym p) k)
      by (crowded f g t) = let (n, p) = same number place too_many_inputs 0 e (crowded_refused f g t) in nine n p f g t
      by (fine f g t) = absurd (taken_is-not_refused number place (circuit_of f) (sym (circuit_taken f g t) ∙ e))

  -- a fault behind the header has no number below 4, and not 9
  not-before : (h : Header) (number place : ℕ) → number < 4 → BodyBroken h (drop 1 (lines bytes)) number place → ⊥
  not-before h number place few k = omega (arith, few, (body_range h (drop 1 (lines bytes)) number place k).0)

  not_nine : (h : Header) (place : ℕ) → BodyBroken h (drop 1 (lines bytes)) too_many_inputs place → ⊥
  not_nine h place k = by (body_range h (drop 1 (lines bytes)) too_many_inputs place k).1
    where
      by : (too_many_inputs ≤ bad_symbol) ⊎ (too_many_inputs ≡ gate_circle) → ⊥
      by (inl few) = omega (arith, few)
      by (inr same) = omega (arith, same)

  -- a file is refused with a number and a place exactly if the table says so
  pub refused_exactly : (number place : ℕ) → (circuit_read limits bytes ≡ refused number place) ↔ Row limits bytes number place
  refused_exactly number place = (refused_row number place, row_refused number place)

  -- and row by row
  pub one_exactly : (place : ℕ) → (circuit_read limits bytes ≡ refused file_too_long place) ↔ ((limits.file < length bytes) × (place ≡ 0))
  one_exactly place = (λ e. by (refused_row file_too_long place e), λ t. row_refused file_too_long place (one refl t.1 t.0))
    where
      by : Row limits bytes file_too_long place → (limits.file < length bytes) × (place ≡ 0)
      by (one n p a) = (a, p)
      by (two n p a b) = absurd (omega (arith, n))
      by (three n p a h t w) = absurd (omega (arith, n))
      by (four_to_eight h b k) = absurd (not-before h file_too_long place (omega arith) k)
      by (nine n p f e t) = absurd (omega (arith, n))

  pub two_exactly : (place : ℕ) → (circuit_read limits bytes ≡ refused bad_header place) ↔ ((length bytes ≤ limits.file) × Headless bytes × (place ≡ 1))
  two_exactly place = (λ e. by (refused_row bad_header place e), λ t. row_refused bad_header place (two refl t.2 t.0 t.1))
    where
      by : Row limits bytes bad_header place → (length bytes ≤ limits.file) × Headless bytes × (place ≡ 1)
      by (one n p a) = absurd (omega (arith, n))
      by (two n p a b) = (a, b, p)
      by (three n p a h t w) = absurd (omega (arith, n))
      by (four_to_eight h b k) = absurd (not-before h bad_header place (omega arith) k)
      by (nine n p f e t) = absurd (omega (arith, n))

  pub three_exactly : (place : ℕ) → (circuit_read limits bytes ≡ refused header_limit place) ↔
      ((h : Header) × (length bytes ≤ limits.file) × Headed bytes h × (Within limits h → ⊥) × (place ≡ 1))
  three_exactly place = (λ e. by (refused_row header_limit place e), λ t. row_refused header_limit place (three refl t.4 t.1 t.0 t.2 t.3))
    where
      by : Row limits bytes header_limit place → (h : Header) × (length bytes ≤ limits.file) × Headed bytes h × (Within limits h → ⊥) × (place ≡ 1)
      by (one n p a) = absurd (omega (arith, n))
      by (two n p a b) = absurd (omega (arith, n))
      by (three n p a h t w) = (h, a, t, w, p)
      by (four_to_eight h b k) = absurd (not-before h header_limit place (omega arith) k)
      by (nine n p f e t) = absurd (omega (arith, n))

  pub four_to_eight_exactly : (number place : ℕ) → 4 ≤ number → number ≤ 8
      → (circuit_read limits bytes ≡ refused number place) ↔ ((h : Header) × Begun limits bytes h × BodyBroken h (drop 1 (lines bytes)) number place)
  four_to_eight_exactly number place low high = (λ e. by (refused_row number place e), λ t. row_refused number place (four_to_eight t.0 t.1 t.2))
    where
      by : Row limits bytes number place → (h : Header) × Begun limits bytes h × BodyBroken h (drop 1 (lines bytes)) number place
      by (one n p a) = absurd (omega (arith, n, low))
      by (two n p a b) = absurd (omega (arith, n, low))
      by (three n p a h t w) = absurd (omega (arith, n, low))
      by (four_to_eight h b k) = (h, b, k)
      by (nine n p f e t) = absurd (omega (arith, n, high))

  abbrev body : List (List ℕ)
  body = drop 1 (lines bytes)

  -- 4, 5 and 6 are given for the first line at fault; 7 for the first that uses what isn't defined; 16 for the lowest gate that reaches itself; 8 for
  -- the first bad symbol line
  in_lines_lem : (number place : ℕ) → (number ≡ not_defined → ⊥) → (number ≡ bad_symbol → ⊥) → 4 ≤ number → number ≤ 8
      → (circuit_read limits bytes ≡ refused number place) ↔ ((h : Header) × Begun limits bytes h × FirstFault h.largest (kinds h) [] body 2 number place)
  in_lines_lem number place seven eight low high =
      (λ e. by ((four_to_eight_exactly number place low high).0 e), λ t. (four_to_eight_exactly number place low high).1 (t.0, t.1, in_lines t.2))
    where
      by : (h : Header) × Begun limits bytes h × BodyBroken h body number place → (h : Header) × Begun limits bytes h
          × FirstFault h.largest (kinds h) [] body 2 number place
      by (h, b, in_lines f) = (h, b, f)
      by (h, b, in_use rows w u) = absurd (seven u.seven)
      by (h, b, in_circle rows w k c) = absurd (omega (arith, high, c.sixteen))
      by (h, b, in_symbols rows w k n) = absurd (eight n.eight)

  pub four_exactly : (place : ℕ) → (circuit_read limits bytes ≡ refused bad_line place) ↔
      ((h : Header) × Begun limits bytes h × FirstFault h.largest (kinds h) [] body 2 bad_line place)
  four_exactly place = in_lines_lem bad_line place (λ e. omega (arith, e)) (λ e. omega (arith, e)) (omega arith) (omega arith)

  pub five_exactly : (place : ℕ) → (circuit_read limits bytes ≡ refused bad_literal place) ↔
      ((h : Header) × Begun limits bytes h × FirstFault h.largest (kinds h) [] body 2 bad_literal place)
  five_exactly place = in_lines_lem bad_literal place (λ e. omega (arith, e)) (λ e. omega (arith, e)) (omega arith) (omega arith)

  pub six_exactly : (place : ℕ) → (circuit_read limits bytes ≡ refused defined_twice place) ↔
      ((h : Header) × Begun limits bytes h × FirstFault h.largest (kinds h) [] body 2 defined_twice place)
  six_exactly place = in_lines_lem defined_twice place (λ e. omega (arith, e)) (λ e. omega (arith, e)) (omega arith) (omega arith)

  -- the late 7 of lines that are right
  pub record Late (h : Header) (place : ℕ) : Type 0 where
    pub rows : List (List ℕ)
    pub right : AllRight h.largest (kinds h) [] body rows
    pub unknown : Unknown (defined_by_all (kinds h) rows) 2 (used_by_all (kinds h) rows) not_defined place

  pub seven_exactly : (place : ℕ) → (circuit_read limits bytes ≡ refused not_defined place) ↔ ((h : Header) × Begun limits bytes h × Late h place)
  seven_exactly place = (
    λ e. by ((four_to_eight_exactly not_defined place (omega arith) (omega arith)).0 e),
    λ t. (four_to_eight_exactly not_defined place (omega arith) (omega arith)).1 (t.0, t.1, in_use t.2.rows t.2.right t.2.unknown),
  )
    where
      by : (h : Header) × Begun limits bytes h × BodyBroken h body not_defined place → (h : Header) × Begun limits bytes h × Late h place
      by (h, b, in_lines f) = absurd (omega (arith, (first_range h.largest (kinds h) [] body 2 not_defined place f).1))
      by (h, b, in_use rows w u) = (h, b, record { rows = rows; right = w; unknown = u })
      by (h, b, in_circle rows w k c) = absurd (omega (arith, c.sixteen))
      by (h, b, in_symbols rows w k n) = absurd (omega (arith, n.eight))

  -- lines that are right and use what is defined, and a gate that reaches itself
  pub record Circling (h : Header) (place : ℕ) : Type 0 where
    pub rows : List (List ℕ)
    pub right : AllRight h.largest (kinds h) [] body rows
    pub known : All (All (Known (defined_by_all (kinds h) rows))) (used_by_all (kinds h) rows)
    pub circle : Circle (3 + h.inputs + h.latches) (gates_on h rows) gate_circle place

  pub sixteen_exactly : (place : ℕ) → (circuit_read limits bytes ≡ refused gate_circle place) ↔ ((h : Header) × Begun limits bytes h × Circling h place)
  sixteen_exactly place = (
    λ e. by (refused_row gate_circle place e),
    λ t. row_refused gate_circle place (four_to_eight t.0 t.1 (in_circle t.2.rows t.2.right t.2.known t.2.circle)),
  )
    where
      broken_there : (h : Header) → Begun limits bytes h → BodyBroken h body gate_circle place → (h : Header) × Begun limits bytes h × Circling h place
      broken_there h b (in_lines f) = absurd (omega (arith, (first_range h.largest (kinds h) [] body 2 gate_circle place f).1))
      broken_there h b (in_use rows w u) = absurd (omega (arith, u.seven))
      broken_there h b (in_circle rows w k c) = (h, b, record { rows = rows; right = w; known = k; circle = c })
      broken_there h b (in_symbols rows w k n) = absurd (omega (arith, n.eight))

      by : Row limits bytes gate_circle place → (h : Header) × Begun limits bytes h × Circling h place
      by (one n p a) = absurd (omega (arith, n))
      by (two n p a b) = absurd (omega (arith, n))
      by (three n p a h t w) = absurd (omega (arith, n))
      by (four_to_eight h b k) = broken_there h b k
      by (nine n p f e t) = absurd (omega (arith, n))

  -- lines that are right and use what is defined, and no gate reaches itself
  pub record Settled (h : Header) : Type 0 where
    pub rows : List (List ℕ)
    pub right : AllRight h.largest (kinds h) [] body rows
    pub well_used : WellUsed h rows

  pub eight_exactly : (place : ℕ) → (circuit_read limits bytes ≡ refused bad_symbol place) ↔
      ((h : Header) × Begun limits bytes h × Settled h × NoSymbol h (3 + h.inputs + h.latches + h.gates) [] (drop (length (kinds h)) body) bad_symbol place)
  eight_exactly place = (
    λ e. by ((four_to_eight_exactly bad_symbol place (omega arith) (omega arith)).0 e),
    λ t. (four_to_eight_exactly bad_symbol place (omega arith) (omega arith)).1 (t.0, t.1, in_symbols t.2.rows t.2.right t.2.well_used t.3),
  )
    where
      by : (h : Header) × Begun limits bytes h × BodyBroken h body bad_symbol place → (h : Header) × Begun limits bytes h × Settled h
          × NoSymbol h (3 + h.inputs + h.latches + h.gates) [] (drop (length (kinds h)) body) bad_symbol place
      by (h, b, in_lines f) = absurd (omega (arith, (first_range h.largest (kinds h) [] body 2 bad_symbol place f).1))
      by (h, b, in_use rows w u) = absurd (omega (arith, u.seven))
      by (h, b, in_circle rows w k c) = absurd (omega (arith, c.sixteen))
      by (h, b, in_symbols rows w k n) = (h, b, record { rows = rows; right = w; well_used = k }, n)

  pub nine_exactly : (place : ℕ) → (circuit_read limits bytes ≡ refused too_many_inputs place) ↔
      ((f : TextFile) × (file_read limits bytes ≡ taken f) × Crowded limits (circuit_of f) × (place ≡ 0))
  nine_exactly place = (λ e. by (refused_row too_many_inputs place e), λ t. row_refused too_many_inputs place (nine refl t.3 t.0 t.1 t.2))
    where
      by : Row limits bytes too_many_inputs place → (f : TextFile) × (file_read limits bytes ≡ taken f) × Crowded limits (circuit_of f) × (place ≡ 0)
      by (one n p a) = absurd (omega (arith, n))
      by (two n p a b) = absurd (omega (arith, n))
      by (three n p a h t w) = absurd (omega (arith, n))
      by (four_to_eight h b k) = absurd (not_nine h place k)
      by (nine n p f e t) = (f, e, t, p)

  -- a circuit is read exactly if a file is taken whose circuit hasn't too many inputs of a sort
  pub taken_circuit : (c : Circuit) → (circuit_read limits bytes ≡ taken c) ↔
      ((f : TextFile) × (file_read limits bytes ≡ taken f) × (too_many limits (circuit_of f) ≡ false) × (circuit_of f ≡ c))
  taken_circuit c = (λ e. by e came, λ t. circuit_taken t.0 t.1 t.2 ∙ λ x. taken (t.3 x))
    where
      never : (number place : ℕ) → circuit_read limits bytes ≡ refused number place → circuit_read limits bytes ≡ taken c → ⊥
      never number place r e = taken_is-not_refused number place c (sym e ∙ r)

      by : circuit_read limits bytes ≡ taken c → Came → (f : TextFile) × (file_read limits bytes ≡ taken f) × (too_many limits (circuit_of f) ≡ false)
          × (circuit_of f ≡ c)
      by e (long a) = absurd (never file_too_long 0 (too_long a) e)
      by e (headless a b) = absurd (never bad_header 1 (no_header a b) e)
      by e (limited a h t w) = absurd (never header_limit 1 (past_limit a h t w) e)
      by e (broken h m q b k) = absurd (never m q (body_refused h m q b k) e)
      by e (crowded f g t) = absurd (never too_many_inputs 0 (crowded_refused f g t) e)
      by e (fine f g t) = (f, g, t, taken_is (circuit_of f) c (sym (circuit_taken f g t) ∙ e))
