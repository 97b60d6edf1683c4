-- The text's four parts in a row. Assumes nothing.
use mathlib.Core.Path.{◌≡◌, sym, ap}
use mathlib.Core.List.{List}
use Prim.Native.Nat.{ℕ, ◌+◌}
use native.Mathlib.Omega.{arith}
use lib.ListN.{length, get_or, length-append}
use Rattle.std.specs.Prelude.{Option}
use Rattle.texts.specs.Text.{bytes, after}
use Rattle.texts.proofs.Writing.{wrote_then, wrote_as}
use Rattle.graph_rules.specs.Graph.{state_of, to, accept_of, early_of, graph_from}
use Rattle.graph_rules.specs.Layout.{end_step}
use Rattle.display.specs.Display.{first_line, edge_lines, end_lines, state_text}
use Rattle.display.proofs.Parts.{text-parts, state-parts}
use Rattle.display.proofs.state.state.Goals as goal

size : (w : List ℕ) (s : ℕ) → length (state_text (get_or w 0 0) s (state_of (graph_from w) s))
    ≡ length (first_line s (accept_of (graph_from w) s) (early_of (graph_from w) s))
    + (length (after (bytes "\n") (edge_lines (get_or w 0 0) (state_of (graph_from w) s))) + (length (after (bytes "\n") (end_lines (to (graph_from w) s end_step))) + 4))
unfolding to accept_of early_of
size w s = simp length-append at (ap length (text-parts (get_or w 0 0) s (state_of (graph_from w) s)))

first-size : {a b c d : Option ℕ} → (s : ℕ) → a ≡ b → c ≡ d → length (first_line s a c) ≡ length (first_line s b d)
first-size s p q = λ i. length (first_line s (p i) (q i))

pub first_line-next-requires : goal.first_line-next-requires
first_line-next-requires c =
    omega (arith, c.requires.counts, size c.args.graph.words.now c.args.s, first-size c.args.s c.accept.ensures.value c.early.ensures.value)

pub edge_lines-next-requires-clause-counts : goal.edge_lines-next-requires-clause-counts
edge_lines-next-requires-clause-counts c =
    omega (arith, c.requires.counts, size c.args.graph.words.now c.args.s, first-size c.args.s c.accept.ensures.value c.early.ensures.value, c.first_line-next.ensures.place)

pub end_line-next-requires : goal.end_line-next-requires
end_line-next-requires c =
    let e = ap (λ (o : Option ℕ). length (after (bytes "\n") (end_lines o))) c.target.ensures.value in
    omega (arith, e, c.requires.counts, size c.args.graph.words.now c.args.s, first-size c.args.s c.accept.ensures.value c.early.ensures.value, c.first_line-next.ensures.place, c.edge_lines-next.ensures.place)

pub bytes-requires : goal.bytes-requires
bytes-requires c =
    let e = ap (λ (o : Option ℕ). length (after (bytes "\n") (end_lines o))) c.target.ensures.value in
    omega (arith, e, c.requires.counts, size c.args.graph.words.now c.args.s, first-size c.args.s c.accept.ensures.value c.early.ensures.value, c.first_line-next.ensures.place, c.edge_lines-next.ensures.place, c.end_line-next.ensures.place)

pub returns : goal.returns
returns c =
    wrote_as (sym (state-parts c.args.graph.words.now c.args.s _ _ _ c.accept.ensures.value c.early.ensures.value c.target.ensures.value))
    (wrote_then c.first_line-next.ensures (wrote_then c.edge_lines-next.ensures (wrote_then c.end_line-next.ensures c.bytes.ensures)))
