-- `Rest::flags` meets its contract: what is left of the symbols equals the whole. Assumes nothing.
use borrow.Author.Rules.{rules}
use borrow.Author.Tests.{tests}
use Prim.Native.Nat.{ℕ, ◌+◌, ◌-◌, ◌<◌}
use native.Mathlib.Omega.{arith}
use lib.Dec.{eqb}
use lib.ListN.{length, take, drop, set, length-drop, length-append}
use lib.Seq.{take_all}
use mathlib.Core.List.{List, ◌∷◌}
use mathlib.Core.Path.{◌≡◌, sym, ap, ap₂, ◌∙◌, subst}
use Rattle.std.specs.Prelude.{Option as Found, Some, Ok}
use Rattle.std.specs.Slice.Iter.{split_inclusive_rest}
use Rattle.std.specs.Iterator.Adapters.{enumerate_source, enumerate_count}
use Rattle.std.proofs.lemmas.Fn.{always_returns_same}
use Rattle.circuit.specs.declared.numbers.Fault.{Fault}
use Rattle.circuit.specs.declared.numbers.Refusal.{Refusal}
use Rattle.circuit.specs.Fault.{number_of}
use Rattle.circuit.specs.Outcome.{refused}
use Rattle.lines.specs.declared.symbol.Symbol.{Symbol as Value}
use Rattle.lines.specs.Inner.Headed.{said}
use Rattle.lines.specs.Inner.SymboledAs.{SymbolAs}
use Rattle.text.specs.Line.{lines}
use Rattle.reader.proofs.Laws.SymbolLoop.{symbolling_starts, symbolling_ends, symbolling_comments, symbolling_refuses, symbolling_goes_on}
use Rattle.reader.proofs.Laws.SymbolLoop.{line_cut, slot_fits, position_fits}
use Rattle.reader.proofs.Laws.Placed.{well, badly}
use Rattle.reader.specs.Inner.SymbolsAs.{SymbolsAs}
use Rattle.reader.proofs.rest.Rest.flags.Goals as goal
use Rattle.reader.proofs.rest.Rest.flags.Goals.{In-Some, In_ok-read, In-Some-read}

pub loop-k-init : goal.loop-k-init
loop-k-init c =
    let self = c.args.self.now in
    let i = c.into_iter-k-iterator in
    let e = c.enumerate-k-items.ensures in
    let rest : List ℕ = drop c.args.at self.bytes.now in
    let all : take (length self.bytes.now - c.args.at) rest ≡ rest = take_all _ rest (omega (arith, length-drop c.args.at self.bytes.now)) in
    symbolling_starts (said self.header) self.bytes.now c.args.at c.filled-named.result c.filled-flags.result (split_inclusive_rest (enumerate_source i.result))
    (enumerate_count i.result)
    (rw i.ensures.into_iter_gives (ap split_inclusive_rest e.source ∙ c.split_inclusive.ensures.rest ∙ all))
    (rw i.ensures.into_iter_gives e.count) c.filled-named.ensures c.filled-flags.ensures

-- the line at hand is the first of those left
abbrev left : In-Some → List ℕ
left c = split_inclusive_rest (enumerate_source c.loop-k.k-iterator)

abbrev behind : In-Some → List ℕ
behind c = split_inclusive_rest (enumerate_source c.next.new.self)

is_first : (c : In-Some) → lines (left c) ≡ c.in-Some.line.now ∷ lines (behind c)
is_first c =
    let s = c.in-Some.ensures.steps.0 in
    line_cut (left c) c.in-Some.line.now (behind c) s.0 s.1.0 s.1.1
    (s.1.2 (λ b. eqb b 10) (always_returns_same _ (λ a r. r ≡ eqb a.0.now 10) _ (λ a r q k. search (rules, tests)))).1 s.2

fewer : (c : In-Some) → length (behind c) < length (left c)
fewer c =
    let s = c.in-Some.ensures.steps.0 in
    omega (arith, s.1.1, s.2, ap length s.0, length-append c.in-Some.line.now (behind c))

-- what was read of the line
read : (c : In_ok-read) → SymbolAs (said c.args.self.now.header) c.loop-k.named c.in-Some.line.now (Ok c.in_ok-read.read)
read c = subst (SymbolAs (said c.args.self.now.header) c.loop-k.named c.in-Some.line.now)
    (well _ c.symbol_line.result c.map_err.result c.in_ok-read.read c.in_ok-read.was c.map_err.ensures.cases) c.symbol_line.ensures

pub returns-in_default : goal.returns-in_default
returns-in_default c =
    let self = c.args.self.now in
    let l = c.loop-k in
    let a = (goal.at.returns-in_default c).In-Some in
    symbolling_comments (said self.header) self.bytes.now self.few c.args.at l.named l.flags (left a) (enumerate_count l.k-iterator) l.invariant
    c.in-Some.line.now (behind a) (is_first a)
    (subst (λ (o : Found Value). SymbolAs (said self.header) l.named c.in-Some.line.now (Ok o)) c.in_default.is
    (read (goal.at.returns-in_default c).In_ok-read))

-- the line is a symbol's
is_symbol : (c : In-Some-read) → SymbolAs (said c.args.self.now.header) c.loop-k.named c.in-Some.line.now (Ok (Some c.in-Some-read.symbol))
is_symbol c = subst (λ (o : Found Value). SymbolAs (said c.args.self.now.header) c.loop-k.named c.in-Some.line.now (Ok o)) c.in-Some-read.is
    (read (goal.at.In-Some-read c).In_ok-read)

pub bounds-named-symbol : goal.bounds-named-symbol
bounds-named-symbol c =
    let self = c.args.self.now in
    let l = c.loop-k in
    let a = (goal.at.bounds-named-symbol c).In-Some in
    omega (
      arith,
      l.invariant.marks_all,
      slot_fits (said self.header) self.bytes.now self.few c.args.at l.named l.flags (left a) (enumerate_count l.k-iterator) l.invariant
          c.in-Some.line.now (behind a) (is_first a) c.in-Some-read.symbol (is_symbol (goal.at.bounds-named-symbol c).In-Some-read),
    )

pub bounds-flags-symbol : goal.bounds-flags-symbol
bounds-flags-symbol c =
    let self = c.args.self.now in
    let l = c.loop-k in
    let a = (goal.at.bounds-flags-symbol c).In-Some in
    omega (
      arith,
      l.invariant.flagged.long,
      position_fits (said self.header) self.bytes.now self.few c.args.at l.named l.flags (left a) (enumerate_count l.k-iterator) l.invariant
          c.in-Some.line.now (behind a) (is_first a) c.in-Some-read.symbol (is_symbol (goal.at.bounds-flags-symbol c).In-Some-read) c.if-symbol.true,
    )

pub returns-in_err-read : goal.returns-in_err-read
returns-in_err-read c =
    let self = c.args.self.now in
    let l = c.loop-k in
    let a = (goal.at.returns-in_err-read c).In-Some in
    let placed : Fault → Refusal = λ fault. record { fault = fault; place = 2 + c.line_count.result + c.in-Some.k } in
    let (fault, was, is) = badly _ placed c.symbol_line.result c.map_err.result c.in_err-read.field-0.0 c.from_residual.result c.in_err-read.was
    c.map_err.ensures.cases c.from_residual.ensures.1 (λ n made. search rules) in
    subst (SymbolsAs (said self.header) self.bytes.now c.args.at) (sym is)
    (symbolling_refuses (said self.header) self.bytes.now self.few c.args.at l.named l.flags (left a) (enumerate_count l.k-iterator) l.invariant
    c.in-Some.line.now (behind a) (is_first a) fault (subst (SymbolAs (said self.header) l.named c.in-Some.line.now) was c.symbol_line.ensures)
    ∙ ap₂ (λ (n k : ℕ). refused (number_of fault) (2 + n + k)) (sym c.line_count.ensures) (sym c.in-Some.ensures.steps.1))

pub loop-k-preserved-then-symbol : goal.loop-k-preserved-then-symbol
loop-k-preserved-then-symbol c =
    let self = c.args.self.now in
    let l = c.loop-k in
    let a = (goal.at.loop-k-preserved-then-symbol c).In-Some in
    symbolling_goes_on (said self.header) self.bytes.now self.few c.args.at l.named l.flags (left a) (enumerate_count l.k-iterator) l.invariant
    c.in-Some.line.now (behind a) (is_first a) c.in-Some-read.symbol (is_symbol (goal.at.loop-k-preserved-then-symbol c).In-Some-read)
    (set l.flags c.in-Some-read.symbol.position 1) (enumerate_count c.next.new.self) (fewer a) c.in-Some.ensures.steps.2 (sym (rw c.if-symbol.true))

pub loop-k-preserved : goal.loop-k-preserved
loop-k-preserved c =
    let self = c.args.self.now in
    let l = c.loop-k in
    let a = (goal.at.loop-k-preserved c).In-Some in
    symbolling_goes_on (said self.header) self.bytes.now self.few c.args.at l.named l.flags (left a) (enumerate_count l.k-iterator) l.invariant
    c.in-Some.line.now (behind a) (is_first a) c.in-Some-read.symbol (is_symbol (goal.at.loop-k-preserved c).In-Some-read)
    l.flags (enumerate_count c.next.new.self) (fewer a) c.in-Some.ensures.steps.2 (sym (rw c.if-symbol.false))

pub returns : goal.returns
returns c =
    let self = c.args.self.now in
    let l = c.loop-k in
    symbolling_ends (said self.header) self.bytes.now self.few c.args.at l.named l.flags (split_inclusive_rest (enumerate_source l.k-iterator))
    (enumerate_count l.k-iterator) l.invariant c.in-None.ensures.steps.0.0
