-- A relabelled graph reads as the graph it was made of, and is reached from its root where that is. Assumes nothing.
use Rattle.std.specs.Prelude.{Option, Some, None, unwrap_or}
use mathlib.Core.Path.{◌≡◌, refl, ap, subst, ◌∙◌}
use mathlib.Core.List.{List, [], ◌∷◌}
use Prim.Native.Nat.{ℕ, zero, suc}
use lib.ListN.{get_or, get_or-map}
use Rattle.graph_rules.specs.Graph.{State, Graph, blank, state_of, to, accept_of, early_of, FromRoot, at-root, on_edge}
use Rattle.graph_rules.specs.Build.{renamed, relabel}
use Rattle.graph_rules.specs.Read.{walk, graph_walker, read_graph}
use Rattle.graph_rules.proofs.Walks.{ends, Led, Quiet, drops, follows-walk, goes, graph-follows}

-- where an edge leads after the names
abbrev pub led : List (Option ℕ) → Option ℕ → Option ℕ
led names None = None
led names (Some u) = get_or names u None

abbrev pub Named : List (Option ℕ) → ℕ → ℕ → Type 0
Named names s i = get_or names s None ≡ Some i

module _ (names : List (Option ℕ)) (rest : List State) (root : ℕ) where
  pub relabel-state : (i : ℕ) → state_of (relabel names rest root) i ≡ renamed names (get_or rest i blank)
  unfolding relabel state_of renamed
  relabel-state i = get_or-map (renamed names) rest i blank

  pub relabel-accept : (i : ℕ) → accept_of (relabel names rest root) i ≡ (get_or rest i blank).accept
  unfolding accept_of renamed
  relabel-accept i = ap (λ (s : State). s.accept) (relabel-state i)

  pub relabel-early : (i : ℕ) → early_of (relabel names rest root) i ≡ (get_or rest i blank).early
  unfolding early_of renamed
  relabel-early i = ap (λ (s : State). s.early) (relabel-state i)

  led-map : (l : List (Option ℕ)) (c : ℕ) → get_or (renamed names (record { steps = l; accept = None; early = None })).steps c None ≡ led names (get_or l c None)
  unfolding renamed
  led-map [] c = refl
  led-map (None ∷ l) zero = refl
  led-map (Some u ∷ l) zero = refl
  led-map (o ∷ l) (suc c) = led-map l c

  pub relabel-to : (i c : ℕ) → to (relabel names rest root) i c ≡ led names (get_or (get_or rest i blank).steps c None)
  unfolding to renamed
  relabel-to i c = ap (λ (s : State). get_or s.steps c None) (relabel-state i) ∙ led-map (get_or rest i blank).steps c

module _ (g : Graph) (names : List (Option ℕ)) (rest : List State)
    (found : (s i : ℕ) → Named names s i → get_or rest i blank ≡ state_of g s) where
  abbrev new : Graph
  new = relabel names rest g.root

  pub new-accept : (s i : ℕ) → Named names s i → accept_of new i ≡ accept_of g s
  unfolding accept_of
  new-accept s i h = relabel-accept names rest g.root i ∙ ap (λ (x : State). x.accept) (found s i h)

  pub new-early : (s i : ℕ) → Named names s i → early_of new i ≡ early_of g s
  unfolding early_of
  new-early s i h = relabel-early names rest g.root i ∙ ap (λ (x : State). x.early) (found s i h)

  pub new-to : (s i : ℕ) → Named names s i → (c : ℕ) → to new i c ≡ led names (to g s c)
  unfolding to
  new-to s i h c = relabel-to names rest g.root i c ∙ ap (λ (x : State). led names (get_or x.steps c None)) (found s i h)

  pub new-root : (i : ℕ) → Named names g.root i → new.root ≡ i
  unfolding relabel
  new-root i h = ap (λ (o : Option ℕ). unwrap_or o 0) h

  module _ (quiet : (s : ℕ) → get_or names s None ≡ None → Quiet (graph_walker g) s) where
    steps-led : (s i : ℕ) → Named names s i → (c : ℕ) → Led (graph_walker g) (Named names) (to g s c) (to new i c)
    steps-led s i h c = rw (new-to s i h c) (go (to g s c))
      where
        at : (u : ℕ) (o : Option ℕ) → get_or names u None ≡ o → Led (graph_walker g) (Named names) (Some u) o
        at u None e = drops (quiet u e)
        at u (Some j) e = goes e

        go : (o : Option ℕ) → Led (graph_walker g) (Named names) o (led names o)
        go None = ends
        go (Some u) = at u (get_or names u None) refl

    -- readings are kept
    pub relabel-reads : (i : ℕ) → Named names g.root i → (text : List ℕ) → read_graph new text ≡ read_graph g text
    unfolding read_graph
    relabel-reads i h text =
        ap (λ (x : ℕ). walk (graph_walker new) x 0 None text) (new-root i h)
        ∙ follows-walk (graph_walker g) (graph_walker new) (Named names) (graph-follows g new (Named names) new-accept new-early steps-led) text g.root i h 0 None

  -- paths are kept, where every state before a named one is named
  module _ (back : (s c u j : ℕ) → to g s c ≡ Some u → Named names u j → (i : ℕ) × Named names s i) where
    pub relabel-path : (s : ℕ) → FromRoot g s → (i : ℕ) → Named names s i → FromRoot new i
    relabel-path s at-root i h = subst (FromRoot new) (new-root i h) at-root
    relabel-path s (on_edge {s = p} {u = u} f c e) i h =
        let (j, n) = back p _ u i e h in
        on_edge (relabel-path p f j n) c (new-to p j n _ ∙ ap (led names) e ∙ h)
