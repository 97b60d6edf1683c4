-- The build (docs/RULES.md, rules 1 to 8), rule by rule. Definitions only.
use Rattle.std.specs.Prelude.{Bool, true, false, not, cond, ◌||◌, List, [], ◌∷◌, ◌++◌, map, ℕ, zero, suc, max, eqb, leb, length, get_or, take, drop, Option, Some, None, unwrap_or}
use Rattle.lists.specs.Sets.{closure}
use Rattle.lists.specs.Lists.{all_l, below, any_l, those, select, distinct, place, eq_option, number_from, sorted}
use Rattle.graph_rules.specs.Table.{Table, size, row_of, leaf_at, match_of}
use Rattle.graph_rules.specs.Graph.{State, Graph, state_of, accept_of, leads, same}
use Rattle.graph_rules.specs.Layout.{end_step}

-- ---- the errors, and their words: kind, leaf count, leaves

pub data Error : Type 0 where
  no_universal_start : Error
  empty_match : ℕ → Error
  disambiguation : List ℕ → Error

abbrev pub error_words : Error → List ℕ
error_words no_universal_start = 0 ∷ 0 ∷ []
error_words (empty_match l) = 1 ∷ 1 ∷ l ∷ []
error_words (disambiguation ls) = 2 ∷ length ls ∷ ls

pub record Built : Type 0 where
  pub graph : Graph
  pub errors : List Error
  pub rounds : ℕ  -- of the merge

-- ---- rule 1: the leaves that can be empty; the answer of a build that ends here

unfoldable pub empty_leaves : Table → List ℕ
empty_leaves t = those (λ l. eqb (leaf_at t l).empty 1) (below (length t.leaves))

abbrev pub no_states : List Error → Built
no_states errors = record { graph = record { states = []; root = 0 }; errors = errors; rounds = 0 }

-- ---- rule 2

-- a byte or end step leads from state k to state u
abbrev pub steps_to : Table → ℕ → ℕ → Bool
steps_to t k u = any_l (eqb u) (row_of t k).steps

-- the states reached from s by such steps; through state 0 too, if it is reached
unfoldable pub reached : Table → ℕ → List Bool
reached t s = closure (steps_to t) (size t) (eqb s)

-- each edge leads to the new name of its target, or is dropped if that has none
unfoldable pub renamed : List (Option ℕ) → State → State
renamed names s =
    record {
      steps = map (λ o. elim o [ None ↦ None | Some u ↦ get_or names u None ]) s.steps;
      accept = s.accept;
      early = s.early;
    }

-- the graph of the states `rest`, once every old state is known by its new name
unfoldable pub relabel : List (Option ℕ) → List State → ℕ → Graph
relabel names rest root = record { states = map (renamed names) rest; root = unwrap_or (get_or names root None) 0 }

-- the graph of a set of states, "renumbered in ascending order"; edges to others are dropped (rules 2 and 7)
unfoldable pub restrict : List Bool → Graph → Graph
restrict keep g = relabel (number_from 0 keep) (select keep g.states) g.root

-- ---- rule 3

-- the leaves of the chain from record number i, with at most k records
abbrev pub chain_from : Table → ℕ → ℕ → List ℕ
chain_from t zero i = []
chain_from t (suc k) i = elim (eqb i 0) [ true ↦ [] | false ↦ (match_of t i).leaf ∷ chain_from t k (match_of t i).next ]

-- the leaves of a state's chain, ascending. A record's next is below its own number, so the head's number bounds the chain's length.
unfoldable pub chain : Table → ℕ → List ℕ
chain t s = let h = (row_of t s).head in chain_from t h h

abbrev pub highest : List ℕ → ℕ
highest [] = 0
highest (p ∷ l) = max p (highest l)

-- those of the highest priority in the chain
unfoldable pub contenders : Table → ℕ → List ℕ
contenders t s = let c = chain t s in let h = highest (map (λ l. (leaf_at t l).priority) c) in those (λ l. eqb (leaf_at t l).priority h) c

abbrev pub single : List ℕ → Option ℕ
single [] = None
single (l ∷ []) = Some l
single (l ∷ (k ∷ ls)) = None

-- a state's leaf: none if the chain is empty, or if several share the highest priority
unfoldable pub leaf_of : Table → ℕ → Option ℕ
leaf_of t s = single (contenders t s)

-- one error for each of the states that has a tie, equal ones kept, sorted
unfoldable pub ties : Table → List Bool → List Error
ties t states = map disambiguation (sorted (those (λ ls. leb 2 (length ls)) (map (contenders t) (select states (below (size t))))))

-- ---- rule 4, with the leaves of rule 3 as accepts

abbrev pub edge : ℕ → Option ℕ
edge zero = None
edge (suc u) = Some (suc u)

unfoldable pub first_state : Table → ℕ → State
first_state t s = record { steps = map edge (row_of t s).steps; accept = leaf_of t s; early = None }

-- the graph of all states of the table
unfoldable pub whole_graph : Table → ℕ → Graph
whole_graph t s = record { states = map (first_state t) (below (size t)); root = s }

-- ---- rule 5

abbrev pub present : Option ℕ → Bool
present None = false
present (Some u) = true

-- the byte edges, there or not, and the end edge if there is one
unfoldable pub children : State → List (Option ℕ)
children s = take end_step s.steps ++ those present (drop end_step s.steps)

-- the accept that an edge leads to
abbrev pub accept_by : Graph → Option ℕ → Option ℕ
accept_by g None = None
accept_by g (Some u) = accept_of g u

-- the leaf that all have: none if one has none, or two differ
abbrev pub agreed : List (Option ℕ) → Option ℕ
agreed [] = None
agreed (o ∷ l) = cond (all_l (eq_option o) l) o None

unfoldable pub with_early : Graph → Graph
with_early g =
    record {
      states = map (λ s. record { steps = s.steps; accept = s.accept; early = agreed (map (accept_by g) (children s)) }) g.states;
      root = g.root;
    }

-- ---- rule 6

-- "every state with an edge to this one has that leaf as early"
unfoldable pub covered : Graph → ℕ → Bool
covered g s = all_l (λ p. not (leads p s) || eq_option p.early (accept_of g s)) g.states

unfoldable pub cleared : Graph → ℕ → State
cleared g s =
    record {
      steps = (state_of g s).steps;
      accept = cond (covered g s) None (accept_of g s);
      early = (state_of g s).early;
    }

unfoldable pub with_cleared : Graph → Graph
with_cleared g = record { states = map (cleared g) (below (length g.states)); root = g.root }

-- ---- rule 7

abbrev pub marked : State → Bool
marked s = present s.accept || present s.early

-- "states with a mark, the root, and all that can reach one of these"
unfoldable pub kept : Graph → List Bool
kept g = closure (λ k s. leads (state_of g s) k) (length g.states) (λ s. marked (state_of g s) || eqb g.root s)

unfoldable pub pruned : Graph → Graph
pruned g = restrict (kept g) g

-- ---- rule 8

-- one round: equal states, as the round finds them, become the lowest of them, and the rest are renumbered
unfoldable pub merge_round : Graph → Graph
merge_round g =
    let rest = distinct same g.states in
    relabel (map (λ s. place same s rest) g.states) rest g.root

unfoldable pub merges_none : Graph → Bool
merges_none g = eqb (length (distinct same g.states)) (length g.states)

pub record Merged : Type 0 where
  pub graph : Graph
  pub rounds : ℕ  -- the last one, that merges nothing, included

abbrev pub one_more : Merged → Merged
one_more m = record { graph = m.graph; rounds = suc m.rounds }

-- rounds until one merges nothing, at most k: each but the last lowers the number of states
abbrev pub merge_for : ℕ → Graph → Merged
merge_for zero g = record { graph = g; rounds = 0 }
merge_for (suc k) g = elim (merges_none g) [ true ↦ record { graph = g; rounds = 1 } | false ↦ one_more (merge_for k (merge_round g)) ]

unfoldable pub merged : Graph → Merged
merged g = merge_for (suc (length g.states)) g

-- ---- the whole

-- rules 2 to 6, from start s
unfoldable pub unpruned : Table → ℕ → Graph
unpruned t s = with_cleared (with_early (restrict (reached t s) (whole_graph t s)))

-- from a start, and the leaves that can be empty
abbrev pub build_from : Table → Option ℕ → List ℕ → Built
build_from t None empties = no_states (no_universal_start ∷ [])
build_from t (Some s) (l ∷ ls) = no_states (map empty_match (l ∷ ls))
build_from t (Some s) [] =
    let m = merged (pruned (unpruned t s)) in
    record { graph = m.graph; errors = ties t (reached t s); rounds = m.rounds }

unfoldable pub build : Table → Built
build t = build_from t t.start (empty_leaves t)
