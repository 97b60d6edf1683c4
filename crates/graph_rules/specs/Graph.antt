-- A lexer graph, and its words (docs/FORMATS.md, "Graph"). Definitions only.
use Rattle.std.specs.Prelude.{◌≡◌, Bool, cond, ◌&&◌, ◌||◌, ℕ, ◌*◌, ◌-◌, eqb, leb, ltb, length, get_or, take, drop, replicate, Option, Some, None, unwrap_or}
use mathlib.Core.List.{List, [], ◌∷◌, ◌++◌, map, flat_map}
use Rattle.lists.specs.Lists.{all_l, eq_list, eq_option, any_l, pieces}
use Rattle.lists.specs.Sets.{closure}
use Rattle.graph_rules.specs.Layout.{step_count, no_state, most_states, row_words, marks_place, graph_size, no_leaf, marks_word, accept_in, early_in}

pub record State : Type 0 where
  pub steps : List (Option ℕ)  -- 257 targets: of the bytes 0 to 255, and at 256 of the end step; none: no edge
  pub accept : Option ℕ  -- the leaf that has matched, without the last byte
  pub early : Option ℕ  -- the leaf that has matched, with the last byte

pub record Graph : Type 0 where
  pub states : List State
  pub root : ℕ

-- ---- views. A number that no state has stands for a state with no marks and no edges.

abbrev pub blank : State
blank = record { steps = []; accept = None; early = None }

unfoldable pub state_of : Graph → ℕ → State
state_of g s = get_or g.states s blank

-- the edge of state s for byte c, or for the end, c = 256
unfoldable pub to : Graph → ℕ → ℕ → Option ℕ
to g s c = get_or (state_of g s).steps c None

unfoldable pub accept_of : Graph → ℕ → Option ℕ
accept_of g s = (state_of g s).accept

unfoldable pub early_of : Graph → ℕ → Option ℕ
early_of g s = (state_of g s).early

-- there is an edge, by a byte or the end, from a state to state u
unfoldable pub leads : State → ℕ → Bool
leads s u = any_l (eq_option (Some u)) s.steps

-- the states that are reached from the root by byte and end edges
pub data FromRoot (g : Graph) : ℕ → Type 0 where
  at-root : FromRoot g g.root
  on_edge : {s u : ℕ} → FromRoot g s → (c : ℕ) → to g s c ≡ Some u → FromRoot g u

-- and as a set that computes
unfoldable pub reached_states : Graph → List Bool
reached_states g = closure (λ k u. leads (state_of g k) u) (length g.states) (eqb g.root)

-- marks, 256 targets and end target all agree (rule 8)
unfoldable pub same : State → State → Bool
same a b = eq_option a.accept b.accept && (eq_option a.early b.early && eq_list eq_option a.steps b.steps)

-- ---- words

-- 256 targets and the end target, and the marks
unfoldable pub state_words : State → List ℕ
state_words s = map (λ o. unwrap_or o no_state) s.steps ++ (marks_word (unwrap_or s.accept no_leaf) (unwrap_or s.early no_leaf) ∷ [])

-- state count, root, then a row a state
unfoldable pub graph_words : Graph → List ℕ
graph_words g = length g.states ∷ g.root ∷ flat_map state_words g.states

-- and zeros up to the words of n states, for a table of so many
unfoldable pub graph_buffer : ℕ → Graph → List ℕ
graph_buffer n g = graph_words g ++ replicate (row_words * (n - length g.states)) 0

-- ---- words that come in: the same layout, read back

-- a number, or none where it is the word for none
abbrev pub or_none : ℕ → ℕ → Option ℕ
or_none word x = cond (eqb x word) None (Some x)

unfoldable pub state_from : List ℕ → State
state_from p =
    let marks = get_or p marks_place 0 in
    record { steps = map (or_none no_state) (take step_count p); accept = or_none no_leaf (accept_in marks); early = or_none no_leaf (early_in marks) }

unfoldable pub graph_from : List ℕ → Graph
graph_from w = record { states = map state_from (pieces row_words (get_or w 0 0) (drop 2 w)); root = get_or w 1 0 }

-- refusal 12: "below 2, or below 2 + 258 a state, over 1,024 states, a target neither below the count nor 65,535, root not below the count (0 if none)"

abbrev pub target_fits : ℕ → ℕ → Bool
target_fits n u = ltb u n || eqb u no_state

abbrev pub row_fits : ℕ → List ℕ → Bool
row_fits n p = all_l (target_fits n) (take step_count p)

abbrev pub root_fits : ℕ → ℕ → Bool
root_fits n root = ltb root n || (eqb n 0 && eqb root 0)

unfoldable pub graph_fits : List ℕ → Bool
graph_fits w =
    let n = get_or w 0 0 in
    leb 2 (length w) && (leb (graph_size n) (length w) && (leb n most_states && (all_l (row_fits n) (pieces row_words n (drop 2 w)) && root_fits n (get_or w 1 0))))

-- ---- lent words

-- after a graph is written over them, for a table of n states: what follows the words of n states is unchanged
abbrev pub written_on : ℕ → Graph → List ℕ → List ℕ
written_on n g w = graph_buffer n g ++ drop (graph_size n) w

-- graph words after a rule of the build
abbrev pub rewritten : (Graph → Graph) → List ℕ → List ℕ
rewritten rule w = written_on (get_or w 0 0) (rule (graph_from w)) w
