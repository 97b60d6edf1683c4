-- Readings of a text (docs/RULES.md, "Reading by the table" and "Reading by the graph"), and clean tables. Definitions only.
use Rattle.std.specs.Prelude.{◌≡◌, List, [], ◌∷◌, ℕ, zero, suc, ◌<◌, get_or, Option, Some, None}
use Rattle.lists.specs.Sets.{In}
use Rattle.graph_rules.specs.Table.{Table, step}
use Rattle.graph_rules.specs.Graph.{Graph, to, accept_of, early_of}
use Rattle.graph_rules.specs.Build.{build, chain, leaf_of, reached, edge}
use Rattle.graph_rules.specs.Layout.{end_step, step_count}
pub use Rattle.graph_rules.specs.declared.Found.{Found}

-- a text is a list of bytes
abbrev pub Bytes : List ℕ → Type 0
Bytes text = (i : ℕ) → get_or text i 0 < 256

abbrev pub Reading : Type 0
Reading = Option Found

-- the record of a state with this leaf that step k has entered: (leaf, k − 1). r: the last record before.
abbrev pub late : Option ℕ → ℕ → Reading → Reading
late None k r = r
late (Some l) zero r = r
late (Some l) (suc k) r = Some (record { leaf = l; end = k })

-- ---- a walk over a text: where a step leads, if anywhere, and what is recorded where it leads

pub record Walker : Type 0 where
  pub next : ℕ → ℕ → Option ℕ  -- from a state by a byte, or by the end step, 256; none: the walk ends
  pub enter : ℕ → ℕ → Reading → Reading  -- the record at a state entered by k byte steps
  pub leave : ℕ → ℕ → Reading → Reading  -- the record at a state entered by the end step after k byte steps

abbrev pub onward : Reading → (ℕ → Reading) → Option ℕ → Reading
onward r f None = r
onward r f (Some u) = f u

-- the walk from state s, after k byte steps and with last record r, over the rest of the text: a step for each byte, then the end step
abbrev pub walk : Walker → ℕ → ℕ → Reading → List ℕ → Reading
walk w s k r [] = let q = w.enter s k r in onward q (λ u. w.leave u k q) (w.next s end_step)
walk w s k r (b ∷ text) = let q = w.enter s k r in onward q (λ u. walk w u (suc k) q text) (w.next s b)

-- ---- a table: "the walk ends at state 0, which records nothing"; "a state entered by step k that has a leaf records (leaf, k − 1)"

unfoldable pub table_walker : Table → Walker
table_walker t =
    record {
      next = λ s c. edge (step t s c);
      enter = λ s k r. late (leaf_of t s) k r;
      leave = λ s k r. late (leaf_of t s) (suc k) r;
    }

abbrev pub start_at : Option ℕ → Option ℕ
start_at None = None
start_at (Some s) = edge s

-- "start 65,535 reads none", and so does start 0
unfoldable pub read_table : Table → List ℕ → Reading
read_table t text = onward None (λ s. walk (table_walker t) s 0 None text) (start_at t.start)

-- ---- a graph: early records (early, k), otherwise accept with k above 0 (accept, k − 1); "after the end step only accept is read"

abbrev pub mark : Option ℕ → Option ℕ → ℕ → Reading → Reading
mark (Some l) accept k r = Some (record { leaf = l; end = k })
mark None accept k r = late accept k r

unfoldable pub graph_walker : Graph → Walker
graph_walker g =
    record {
      next = to g;
      enter = λ s k r. mark (early_of g s) (accept_of g s) k r;
      leave = λ s k r. late (accept_of g s) (suc k) r;
    }

-- a graph without states reads none: its root has no marks and no edges
unfoldable pub read_graph : Graph → List ℕ → Reading
read_graph g text = walk (graph_walker g) g.root 0 None text

-- ---- clean

-- what a clean table is, conflicts aside
pub record Orderly (t : Table) : Type 0 where
  -- "state 0 has an empty chain and all its steps lead to 0", reached or not
  pub zero-chain : chain t 0 ≡ []
  pub zero-steps : (c : ℕ) → c < step_count → step t 0 c ≡ 0
  -- "a reached state whose 256 byte steps all lead to states of one same leaf has an end step to a state other than 0"
  pub end-too : (s₀ s l : ℕ) → t.start ≡ Some s₀ → In (reached t s₀) s
      → ((b : ℕ) → b < 256 → leaf_of t (step t s b) ≡ Some l) → step t s end_step ≡ 0 → ⊥

pub record Clean (t : Table) : Type 0 where
  -- "no error in the build"
  pub no-error : (build t).errors ≡ []
  pub orderly : Orderly t
