-- Rule 5 on words: the leaf that all children of a state have, from the leaf that each edge leads to. Assumes nothing.
use Rattle.std.specs.Prelude.{Option, Some, None}
use mathlib.Core.Path.{◌≡◌, refl, sym, ap, ◌∙◌}
use mathlib.Core.Bool.{true}
use mathlib.Core.List.{List, [], ◌∷◌, ◌++◌, map, append-nil}
use mathlib.Core.Logic.{⊎_elim}
use Prim.Native.Nat.{ℕ, zero, suc, ◌≤◌, ◌<◌}
use native.Mathlib.Omega.{arith}
use lib.ListN.{length, get_or, take, drop, length-map, take-append-drop, drop_of_length-le, get_or-map}
use lib.Seq.{drop-cons, length-take-le, get_or-take, ext_get_or}
use Rattle.lists.proofs.Bools.{lt-or-le}
use Rattle.graph_rules.specs.Graph.{State, Graph, state_of, to, accept_of, early_of, or_none, graph_from, graph_fits}
use Rattle.graph_rules.specs.Build.{children, accept_by, agreed, with_early}
use Rattle.graph_rules.proofs.Flat.{from-to, from-accept, from-length, from-width}
use Rattle.graph_rules.proofs.Agreed.{agreed-all, agreed-none}
use Rattle.graph_rules.proofs.Marks.{early-early}
use Rattle.graph_rules.proofs.Taken.{taken-long}
use Rattle.graph_rules.proofs.Views.{out-accept}
use Rattle.graph_rules.specs.Layout.{end_step, step_count, no_state, marks_place, graph_place, no_leaf, accept_in}

-- ---- the children of a row

module _ (s : State) (width : length s.steps ≡ step_count) where
  last : drop end_step s.steps ≡ get_or s.steps end_step None ∷ []
  last = drop-cons s.steps end_step None (omega arith) ∙ ap (◌∷◌ (get_or s.steps end_step None)) (drop_of_length-le s.steps {i = step_count} (omega arith))

  children-bytes : get_or s.steps end_step None ≡ None → children s ≡ take end_step s.steps
  unfolding children
  children-bytes e = rw (last, e) (append-nil (take end_step s.steps))

  children-all : (u : ℕ) → get_or s.steps end_step None ≡ Some u → children s ≡ s.steps
  unfolding children
  children-all u e = rw (last, e) (ap (λ (x : List (Option ℕ)). take end_step s.steps ++ x) (sym (last ∙ rw e)) ∙ take-append-drop end_step s.steps)

-- ---- the leaves of a state's children

-- the leaf that edge c of state s leads to
abbrev pub leaf_by : List ℕ → ℕ → ℕ → Option ℕ
leaf_by w s c = accept_by (graph_from w) (to (graph_from w) s c)

-- byte 0 leads to its own leaf, so it is the others that are asked
pub from-one : (w : List ℕ) (s : ℕ) {n : ℕ} → ((c : ℕ) → 1 ≤ c → c < n → leaf_by w s c ≡ leaf_by w s 0) → (c : ℕ) → c < n → leaf_by w s c ≡ leaf_by w s 0
from-one w s f zero b = refl
from-one w s f (suc c) b = f (suc c) (omega arith) b

-- the early leaf of state s
abbrev pub early_leaf : List ℕ → ℕ → Option ℕ
early_leaf w s = early_of (with_early (graph_from w)) s

module _ (w : List ℕ) (taken : graph_fits w ≡ true) (s : ℕ) (h : s < get_or w 0 0) where
  abbrev g : Graph
  g = graph_from w

  abbrev leaves : List (Option ℕ)
  leaves = map (accept_by g) (children (state_of g s))

  width : length (state_of g s).steps ≡ step_count
  width = from-width w (taken-long w taken) s h

  -- the children are the edges of l, a part of the row
  module _ (l : List (Option ℕ)) (all : children (state_of g s) ≡ l) where
    size : length leaves ≡ length l
    size = length-map (children (state_of g s)) (accept_by g) ∙ ap length all

    leaf-at : (c : ℕ) → get_or l c None ≡ to g s c → get_or leaves c None ≡ accept_by g (to g s c)
    leaf-at c e = get_or-map (accept_by g) (children (state_of g s)) c None ∙ ap (accept_by g) (ap (λ (x : List (Option ℕ)). get_or x c None) all ∙ e)

  -- how many children there are, and that child c is that of edge c
  record Kids (n : ℕ) : Type 0 where
    many : length leaves ≡ n
    leaf : (c : ℕ) → c < n → get_or leaves c None ≡ accept_by g (to g s c)

  byte-kids : to g s end_step ≡ None → Kids end_step
  unfolding to
  byte-kids e =
      let row = (state_of g s).steps in
      let kids = children-bytes (state_of g s) width e in
      let short = length-take-le end_step row (let z = width in omega arith) in
      record { many = size (take end_step row) kids ∙ short; leaf = λ c b. leaf-at (take end_step row) kids c (get_or-take end_step row c None b) }

  all-kids : (u : ℕ) → to g s end_step ≡ Some u → Kids step_count
  unfolding to
  all-kids u e =
      let kids = children-all (state_of g s) width u e in
      record { many = size (state_of g s).steps kids ∙ width; leaf = λ c b. leaf-at (state_of g s).steps kids c refl }

  -- ---- what they agree on

  module _ (n : ℕ) (k : Kids n) (some-kid : end_step ≤ n) where
    early-is : (o : Option ℕ) → agreed leaves ≡ o → o ≡ early_leaf w s
    early-is o e = sym (early-early g s ∙ e)

    differ : (c : ℕ) → c < n → (leaf_by w s c ≡ leaf_by w s 0 → ⊥) → None ≡ early_leaf w s
    differ c b d =
        let m = k.many in
        early-is None
        (agreed-none leaves c (omega arith) (λ q. d (sym (k.leaf c b) ∙ q ∙ k.leaf 0 (omega arith))))

    agree : ((c : ℕ) → c < n → leaf_by w s c ≡ leaf_by w s 0) → leaf_by w s 0 ≡ early_leaf w s
    agree f =
        let m = k.many in
        early-is (accept_by g (to g s 0))
        (agreed-all leaves (accept_by g (to g s 0)) (omega arith) (λ c b.
        let b' : c < n = omega arith in
        k.leaf c b' ∙ f c b'))

  pub byte-differs : (c : ℕ) → c < end_step → (leaf_by w s c ≡ leaf_by w s 0 → ⊥) → None ≡ early_leaf w s
  byte-differs c b d = go (to g s end_step) refl
    where
      go : (o : Option ℕ) → to g s end_step ≡ o → None ≡ early_leaf w s
      go None e = differ end_step (byte-kids e) (omega arith) c b d
      go (Some u) e = differ step_count (all-kids u e) (omega arith) c (omega arith) d

  pub end-differs : (u : ℕ) → to (graph_from w) s end_step ≡ Some u → (leaf_by w s end_step ≡ leaf_by w s 0 → ⊥) → None ≡ early_leaf w s
  end-differs u e = differ step_count (all-kids u e) (omega arith) end_step (omega arith)

  -- a missing end step does not prevent it
  pub bytes-agree : to (graph_from w) s end_step ≡ None → ((c : ℕ) → c < end_step → leaf_by w s c ≡ leaf_by w s 0) → leaf_by w s 0 ≡ early_leaf w s
  bytes-agree e = agree end_step (byte-kids e) (omega arith)

  pub all-agree : (u : ℕ) → to (graph_from w) s end_step ≡ Some u → ((c : ℕ) → c < step_count → leaf_by w s c ≡ leaf_by w s 0) → leaf_by w s 0 ≡ early_leaf w s
  all-agree u e = agree step_count (all-kids u e) (omega arith)

-- ---- words that agree on targets and accepts agree on the early leaf

pub early-alike : (v w : List ℕ) (taken-v : graph_fits v ≡ true) (taken-w : graph_fits w ≡ true) → get_or v 0 0 ≡ get_or w 0 0
    → ((s c : ℕ) → c < step_count → get_or v (graph_place s c) 0 ≡ get_or w (graph_place s c) 0)
    → ((s : ℕ) → accept_in (get_or v (graph_place s marks_place) 0) ≡ accept_in (get_or w (graph_place s marks_place) 0))
    → (s : ℕ) → s < get_or w 0 0 → early_leaf v s ≡ early_leaf w s
unfolding to children
early-alike v w taken-v taken-w size targets accepts s h =
    early-early (graph_from v) s ∙ kids ∙ sym (early-early (graph_from w) s)
  where
    hv : {k : ℕ} → k < get_or w 0 0 → k < get_or v 0 0
    hv l = omega arith

    steps : (state_of (graph_from v) s).steps ≡ (state_of (graph_from w) s).steps
    steps =
        let a = from-width v (taken-long v taken-v) s (hv h) in
        ext_get_or None (state_of (graph_from v) s).steps (state_of (graph_from w) s).steps (a ∙ sym (from-width w (taken-long w taken-w) s h))
        (λ c b.
        let b' : c < step_count = omega arith in
        from-to v (taken-long v taken-v) s (hv h) c b' ∙ ap (or_none no_state) (targets s c b') ∙ sym (from-to w (taken-long w taken-w) s h c b'))

    accept : (u : ℕ) → accept_of (graph_from v) u ≡ accept_of (graph_from w) u
    accept u =
        ⊎_elim
        (λ l. from-accept v (taken-long v taken-v) u (hv l) ∙ ap (or_none no_leaf) (accepts u) ∙ sym (from-accept w (taken-long w taken-w) u l))
        (λ l. out-accept (graph_from v) u (rw (from-length v, size) l) ∙ sym (out-accept (graph_from w) u (rw (from-length w) l)))
        (lt-or-le u (get_or w 0 0))

    by : (o : Option ℕ) → accept_by (graph_from v) o ≡ accept_by (graph_from w) o
    by None = refl
    by (Some u) = accept u

    kids : agreed (map (accept_by (graph_from v)) (children (state_of (graph_from v) s))) ≡ agreed (map (accept_by (graph_from w)) (children (state_of (graph_from w) s)))
    kids = λ i. agreed (map (λ o. by o i) (children (record { steps = steps i; accept = None; early = None })))
