-- The text of a state in four parts, also as the views of its words give them. Assumes nothing.
use Rattle.std.specs.Prelude.{Option, None}
use mathlib.Core.Path.{◌≡◌, ap, ◌∙◌}
use mathlib.Core.List.{List, [], ◌∷◌, ◌++◌}
use Prim.Native.Nat.{ℕ}
use lib.ListN.{get_or}
use Rattle.texts.specs.Text.{bytes, after}
use Rattle.texts.proofs.Joins.{after-append}
use Rattle.graph_rules.specs.Graph.{State, state_of, to, accept_of, early_of, graph_from}
use Rattle.display.specs.Display.{first_line, edge_lines, end_lines, state_text}
use Rattle.graph_rules.specs.Layout.{end_step}

-- a state's text: the first line, the edges' lines, the end's, and the last
abbrev pub four : ℕ → ℕ → State → Option ℕ → Option ℕ → Option ℕ → List ℕ
four n s st accept early end =
    first_line s accept early ++ (after (bytes "\n") (edge_lines n st) ++ (after (bytes "\n") (end_lines end) ++ bytes "\n  }"))

pub text-parts : (n s : ℕ) (st : State) → state_text n s st ≡ four n s st st.accept st.early (get_or st.steps end_step None)
unfolding state_text
text-parts n s st =
    let last = bytes "  }" ∷ [] in
    let end = end_lines (get_or st.steps end_step None) in
    ap (λ (l : List ℕ). first_line s st.accept st.early ++ l)
    (after-append (bytes "\n") (edge_lines n st) (end ++ last) ∙ ap (λ (l : List ℕ). after (bytes "\n") (edge_lines n st) ++ l) (after-append (bytes "\n") end last))

-- also by what a graph answers of the state
pub state-parts : (w : List ℕ) (s : ℕ) (accept early end : Option ℕ) → accept ≡ accept_of (graph_from w) s → early ≡ early_of (graph_from w) s → end ≡ to (graph_from w) s end_step
    → state_text (get_or w 0 0) s (state_of (graph_from w) s) ≡ four (get_or w 0 0) s (state_of (graph_from w) s) accept early end
unfolding to accept_of early_of
state-parts w s accept early end a e t = rw (a, e, t) (text-parts (get_or w 0 0) s (state_of (graph_from w) s))
