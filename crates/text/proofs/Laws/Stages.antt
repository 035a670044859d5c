-- Reading the lines behind the header, stage by stage (01, "The numbers", the order of the numbers): each section, the late 7, 16, the
-- symbols. Assumes nothing.
use Prim.Native.Nat.{ℕ}
use mathlib.Core.List.{List, [], map}
use mathlib.Core.Path.{◌≡◌}
use lib.ListN.{get_or}
use Rattle.circuit.specs.Outcome.{Outcome, taken, ◌>>=◌, ◌>>◌}
use Rattle.text.specs.Header.{Header}
use Rattle.text.specs.Kind.{latch_of, gate_of}
use Rattle.text.specs.Read.{lines_read}
use Rattle.text.specs.Section.{Body}
use Rattle.text.specs.Stages.{input_section, latch_section, output_section, gate_section, late_stage, circle_stage, symbol_stage}
use Rattle.text.specs.Symbol.{Symbols}
use Rattle.text.specs.TextFile.{TextFile}
use Rattle.text.proofs.Laws.Outcome.{bind_taken, then_taken, taken_is}

-- the file that sections, output and symbols make
abbrev pub file_of : Header → (inputs latches output gates : Body) → Symbols → TextFile
file_of h inputs latches output gates behind =
    record {
      largest = h.largest;
      inputs = map (λ fs. get_or fs 0 0) inputs.rows;
      latches = map latch_of latches.rows;
      output = get_or (get_or output.rows 0 []) 0 0;
      gates = map gate_of gates.rows;
      symbols = behind.symbols;
      comment = behind.comment;
    }

-- what is still to be read behind each stage
abbrev pub behind_circle : Header → (inputs latches output gates : Body) → Outcome TextFile
behind_circle h inputs latches output gates = symbol_stage h gates >>= λ behind. taken (file_of h inputs latches output gates behind)

abbrev pub behind_late : Header → (inputs latches output gates : Body) → Outcome TextFile
behind_late h inputs latches output gates = circle_stage h gates >> behind_circle h inputs latches output gates

abbrev pub behind_gates : Header → (inputs latches output gates : Body) → Outcome TextFile
behind_gates h inputs latches output gates = late_stage h latches output gates >> behind_late h inputs latches output gates

abbrev pub behind_output : Header → (inputs latches output : Body) → Outcome TextFile
behind_output h inputs latches output = gate_section h output >>= behind_gates h inputs latches output

abbrev pub behind_latches : Header → (inputs latches : Body) → Outcome TextFile
behind_latches h inputs latches = output_section h latches >>= behind_output h inputs latches

abbrev pub behind_inputs : Header → Body → Outcome TextFile
behind_inputs h inputs = latch_section h inputs >>= behind_latches h inputs

-- each stage was taken
pub record Parts (h : Header) (rest : List (List ℕ)) (f : TextFile) : Type 0 where
  pub inputs : Body
  pub latches : Body
  pub output : Body
  pub gates : Body
  pub behind : Symbols
  pub inputs_taken : input_section h rest ≡ taken inputs
  pub latches_taken : latch_section h inputs ≡ taken latches
  pub output_taken : output_section h latches ≡ taken output
  pub gates_taken : gate_section h output ≡ taken gates
  pub late_taken : late_stage h latches output gates ≡ taken tt
  pub circle_taken : circle_stage h gates ≡ taken tt
  pub symbols_taken : symbol_stage h gates ≡ taken behind
  pub whole : file_of h inputs latches output gates behind ≡ f

pub parts : (h : Header) (rest : List (List ℕ)) (f : TextFile) → lines_read h rest ≡ taken f → Parts h rest f
unfolding lines_read
parts h rest f e =
    let (inputs, a, e1) = bind_taken (input_section h rest) (behind_inputs h) f e in
    let (latches, b, e2) = bind_taken (latch_section h inputs) (behind_latches h inputs) f e1 in
    let (output, c, e3) = bind_taken (output_section h latches) (behind_output h inputs latches) f e2 in
    let (gates, d, e4) = bind_taken (gate_section h output) (behind_gates h inputs latches output) f e3 in
    let (u, g, e5) = then_taken (late_stage h latches output gates) (behind_late h inputs latches output gates) f e4 in
    let (v, o, e6) = then_taken (circle_stage h gates) (behind_circle h inputs latches output gates) f e5 in
    let (behind, s, e7) = bind_taken (symbol_stage h gates) (λ b. taken (file_of h inputs latches output gates b)) f e6 in
    record {
      inputs = inputs;
      latches = latches;
      output = output;
      gates = gates;
      behind = behind;
      inputs_taken = a;
      latches_taken = b;
      output_taken =
          c;
      gates_taken = d;
      late_taken = g;
      circle_taken = o;
      symbols_taken = s;
      whole = taken_is (file_of h inputs latches output gates behind) f e7;
    }
