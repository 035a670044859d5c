-- What document 01 asks of a file (01, "The file", rules 1 to 6, and the limits; 02, T-01), rule by rule, of a file given by its numbers, names and
-- comment; Written.text_of says what is written down for it. Nothing is read here. Assumes nothing.
use Rattle.std.specs.Prelude.{ℕ, ◌+◌, ◌*◌, ◌%◌, ◌^◌, ◌<◌, ◌≤◌, List, ◌++◌, map, ◌⊎◌, ◌≢◌, ◌≡◌, length}
use Rattle.circuit.specs.Circuit.{Latch, Gate}
use Rattle.circuit.specs.Limits.{Limits}
use Rattle.circuit.specs.Literal.{variable}
use Rattle.order.specs.Reaches.{Reaches}
use Rattle.text.specs.GateUses.{uses_of}
use Rattle.text.specs.InList.{All, Pairs, In}
use Rattle.text.specs.Symbol.{Symbol, input_letter, latch_letter, output_letter}
use Rattle.text.specs.TextFile.{TextFile}
use Rattle.text.specs.Written.{text_of}

-- rule 3: every literal is at most 2M + 1; one that defines is even and at least 2
pub record Defining (M l : ℕ) : Type 0 where
  pub most : l ≤ 2 * M + 1
  pub even : l % 2 ≡ 0
  pub least : 2 ≤ l

pub record LatchLine (M : ℕ) (l : Latch) : Type 0 where
  pub own : Defining M l.own
  pub next : l.next ≤ 2 * M + 1

pub record GateLine (M : ℕ) (g : Gate) : Type 0 where
  pub own : Defining M g.own
  pub left : g.left ≤ 2 * M + 1
  pub right : g.right ≤ 2 * M + 1

-- rule 4: a constant, or a literal of one of these variables
abbrev pub Known : List ℕ → ℕ → Type 0
Known defined l = (l < 2) ⊎ In defined (variable l)

-- rule 4, as 02, T-01 mends it: some gate reaches itself through gates
abbrev pub ReachesItself : List Gate → (gate : ℕ) → Type 0
ReachesItself gates i = Reaches (uses_of gates) (length gates) i i

-- the variables that inputs and latches define, and all that the file defines, in file order
abbrev pub of_inputs_and_latches : TextFile → List ℕ
of_inputs_and_latches f = map variable f.inputs ++ map (λ (l : Latch). variable l.own) f.latches

abbrev pub defined_in : TextFile → List ℕ
defined_in f = of_inputs_and_latches f ++ map (λ (g : Gate). variable g.own) f.gates

-- rule 5: a letter with a position below its count
pub data Placed (f : TextFile) (s : Symbol) : Type 0 where
  of_input : s.letter ≡ input_letter → s.position < length f.inputs → Placed f s
  of_latch : s.letter ≡ latch_letter → s.position < length f.latches → Placed f s
  of_output : s.letter ≡ output_letter → s.position < 1 → Placed f s

-- rule 5: a name of 1 to 200 bytes from 32 to 126
pub record SymbolLine (f : TextFile) (s : Symbol) : Type 0 where
  pub placed : Placed f s
  pub some : 1 ≤ length s.name
  pub most : length s.name ≤ 200
  pub bytes : All (λ b. (32 ≤ b) × (b ≤ 126)) s.name

-- rule 5: no position is named twice
abbrev pub Apart : Symbol → Symbol → Type 0
Apart s t = s.letter ≡ t.letter → s.position ≢ t.position

pub record WellFormed (limits : Limits) (f : TextFile) : Type 0 where
  -- the limits on the file, on M, I and L
  pub file : length (text_of f) ≤ limits.file
  pub largest : f.largest ≤ limits.variable
  pub input_count : length f.inputs ≤ limits.inputs
  pub latch_count : length f.latches ≤ limits.latches
  -- no number has more than seven digits: none is larger than the largest literal
  pub digits : 2 * f.largest + 1 < 10 ^ 7
  -- rule 1
  pub room : length f.inputs + length f.latches + length f.gates ≤ f.largest
  -- rules 2 and 3
  pub inputs : All (Defining f.largest) f.inputs
  pub latches : All (LatchLine f.largest) f.latches
  pub output : f.output ≤ 2 * f.largest + 1
  pub gates : All (GateLine f.largest) f.gates
  -- rule 4
  pub once : Pairs (λ v w. v ≢ w) (defined_in f)
  pub operands : All (λ (g : Gate). Known (defined_in f) g.left × Known (defined_in f) g.right) f.gates
  pub no_circle : (i : ℕ) → ReachesItself f.gates i → ⊥
  pub nexts : All (λ (l : Latch). Known (defined_in f) l.next) f.latches
  pub error : Known (defined_in f) f.output
  -- rule 5; rule 6 leaves the comment free
  pub symbols : All (SymbolLine f) f.symbols
  pub apart : Pairs Apart f.symbols
