-- Of an orderly table every kept state of the unpruned graph is reached from its root. Assumes nothing.
use Rattle.std.specs.Prelude.{Option, Some, None}
use mathlib.Core.Path.{◌≡◌, refl, sym, ap, subst, ◌∙◌}
use mathlib.Core.Bool.{true, ◌||◌, false≢true}
use mathlib.Core.List.{List}
use mathlib.Core.Logic.{⊎_elim}
use Prim.Native.Nat.{ℕ, zero, suc, ◌<◌}
use native.Mathlib.Omega.{arith}
use borrow.Author.Tests.{eqb-true}
use lib.Dec.{eqb}
use lib.ListN.{length, get_or-eq_default}
use Rattle.lists.specs.Sets.{In, Reach, from-seed, by-edge}
use Rattle.lists.specs.Lists.{any_l, number_from}
use Rattle.lists.proofs.Closure.{in-below, closure-sound, closure-complete}
use Rattle.lists.proofs.Bools.{or_cases, none-some, some_inj, lt-or-le}
use Rattle.lists.proofs.Numbering.{in-number, number_in}
use Rattle.lists.proofs.Any.{any_found}
use Rattle.graph_rules.specs.Table.{Table, size, row_of, step}
use Rattle.graph_rules.specs.Graph.{Graph, state_of, to, accept_of, early_of, leads, FromRoot, at-root, on_edge}
use Rattle.graph_rules.specs.Build.{steps_to, reached, contenders, leaf_of, edge, restrict, whole_graph, with_early, with_cleared, unpruned, kept, marked, present}
use Rattle.graph_rules.specs.Read.{Orderly}
use Rattle.graph_rules.proofs.Rename.{Named, led}
use Rattle.graph_rules.proofs.Prune.{kept-length, restrict-onto, restrict-root}
use Rattle.graph_rules.proofs.Marks.{cleared-length, early-length}
use Rattle.graph_rules.proofs.Shape.{Shaped}
use Rattle.graph_rules.proofs.Unpruned.{first-root, lengths, reached-below, reached-start, un-accept, un-byte, un-leads, un-to}
use Rattle.graph_rules.proofs.Views.{leads-edge}
use Rattle.graph_rules.specs.Layout.{step_count}

present-none : (o : Option ℕ) → present o ≡ true → o ≡ None → ⊥
present-none None h e = false≢true h
present-none (Some l) h e = none-some (sym e)

-- why a state is kept
data Why (g : Graph) (i : ℕ) : Type 0 where
  has-accept : (accept_of g i ≡ None → ⊥) → Why g i
  has-early : (early_of g i ≡ None → ⊥) → Why g i
  is-root : g.root ≡ i → Why g i
  has-edge : (c u : ℕ) → to g i c ≡ Some u → Why g i

kept-why : (g : Graph) (i : ℕ) → In (kept g) i → Why g i
unfolding kept accept_of early_of
kept-why g i h = go (closure-sound (λ k s. leads (state_of g s) k) (length g.states) (λ s. marked (state_of g s) || eqb g.root s) i h)
  where
    go : Reach (λ k s. leads (state_of g s) k) (length g.states) (λ s. marked (state_of g s) || eqb g.root s) i → Why g i
    go (from-seed b e) =
        ⊎_elim
        (λ m. ⊎_elim
        (λ a. has-accept (present-none (state_of g i).accept a))
        (λ a. has-early (present-none (state_of g i).early a))
        (or_cases (present (state_of g i).accept) _ m))
        (λ r. is-root (eqb-true g.root i r))
        (or_cases (marked (state_of g i)) _ e)
    go (by-edge {k} r b e) = let (c, q) = leads-edge g i k e in has-edge c k q

kept-below : (g : Graph) (i : ℕ) → In (kept g) i → i < length g.states
kept-below g i h = let a = in-below (kept g) i h in let b = kept-length g in omega arith

-- steps of the table, and what it reaches
step_of : (t : Table) (k s : ℕ) → any_l (eqb s) (row_of t k).steps ≡ true → (c : ℕ) × (c < length (row_of t k).steps) × (step t k c ≡ s)
unfolding step
step_of t k s e = let (c, b, q) = any_found (eqb s) 0 (row_of t k).steps e in (c, b, sym (eqb-true s _ q))

in-reached : (t : Table) (s₀ s : ℕ) → Reach (steps_to t) (size t) (eqb s₀) s → In (reached t s₀) s
unfolding reached
in-reached t s₀ s r = closure-complete (steps_to t) (size t) (eqb s₀) s r

reached-sound : (t : Table) (s₀ s : ℕ) → In (reached t s₀) s → Reach (steps_to t) (size t) (eqb s₀) s
unfolding reached
reached-sound t s₀ s h = closure-sound (steps_to t) (size t) (eqb s₀) s h

pub edge_of : (s : ℕ) → (s ≡ 0 → ⊥) → edge s ≡ Some s
edge_of zero z = absurd (z refl)
edge_of (suc s) z = refl

module _ (t : Table) (sh : Shaped t) (s₀ : ℕ) (st : t.start ≡ Some s₀) where
  abbrev g : Graph
  g = unpruned t s₀

  abbrev names : List (Option ℕ)
  names = number_from 0 (reached t s₀)

  pub un-length : length (unpruned t s₀).states ≡ length (restrict (reached t s₀) (whole_graph t s₀)).states
  unfolding unpruned
  un-length = cleared-length (with_early (restrict (reached t s₀) (whole_graph t s₀))) ∙ early-length (restrict (reached t s₀) (whole_graph t s₀))

  pub un-root : (i : ℕ) → Named names s₀ i → (unpruned t s₀).root ≡ i
  unfolding unpruned with_cleared with_early
  un-root i n = first-root t sh s₀ st i n

  pub un-root-within : (unpruned t s₀).root < length (unpruned t s₀).states
  unfolding unpruned with_cleared with_early whole_graph
  un-root-within =
      rw un-length (restrict-root (whole_graph t s₀) (reached t s₀) (lengths t sh s₀ st) (reached-start t sh s₀ st))

  un-onto : (i : ℕ) → i < length (unpruned t s₀).states → (s : ℕ) × Named names s i
  un-onto i h = restrict-onto (whole_graph t s₀) (reached t s₀) (lengths t sh s₀ st) i (rw un-length at h)

  module _ (orderly : Orderly t) where
    zero-leaf : leaf_of t 0 ≡ None
    unfolding leaf_of contenders
    zero-leaf = rw orderly.zero-chain

    zero-edge : 0 < size t → (c : ℕ) → edge (step t 0 c) ≡ None
    unfolding step
    zero-edge h c =
        ap edge
        (⊎_elim
        (λ b. orderly.zero-steps c b)
        (λ b. let w = sh.width 0 h in get_or-eq_default (row_of t 0).steps 0 (omega arith))
        (lt-or-le c step_count))

    -- a state other than 0 that the table reaches: the way there never meets state 0
    path : (s : ℕ) → Reach (steps_to t) (size t) (eqb s₀) s → (s ≡ 0 → ⊥) → (i : ℕ) → Named names s i → FromRoot g i
    path s (from-seed h e) z i n =
        subst (FromRoot g) (un-root i (subst (λ (x : ℕ). Named names x i) (sym (eqb-true s₀ s e)) n)) at-root
    path s (by-edge {k} r h e) z i n = go (path k r)
      where
        go : ((k ≡ 0 → ⊥) → (j : ℕ) → Named names k j → FromRoot g j) → FromRoot g i
        go ih =
            let k-in : In (reached t s₀) k = in-reached t s₀ k r in
            let hk : k < size t = reached-below t sh s₀ st k k-in in
            let (c, b, q) = step_of t k s e in
            let c' : c < step_count = let w = sh.width k hk in omega arith in
            let (j, m) = number_in 0 (reached t s₀) k k-in in
            let e' : edge (step t k c) ≡ Some s = ap edge q ∙ edge_of s z in
            let (i', m', e'') = un-leads t sh s₀ st k j c s m c' e' in
            let d : i' ≡ i = some_inj (sym m' ∙ n) in
            on_edge (ih (λ k0. z (sym q ∙ ap (λ (x : ℕ). step t x c) k0 ∙ orderly.zero-steps c c')) j m) c (e'' ∙ ap {B = Option ℕ} Some d)

    -- state 0 has no marks and no edges: it is kept only as the root
    zero-kept : (i : ℕ) → Named names 0 i → In (kept g) i → FromRoot g i
    zero-kept i n h = go (kept-why g i h)
      where
        z : 0 < size t
        z = reached-below t sh s₀ st 0 (in-number 0 (reached t s₀) 0 i n)

        no-accept : accept_of g i ≡ None
        no-accept = ⊎_elim (λ x. x.1) (λ x. x ∙ zero-leaf) (un-accept t sh s₀ st 0 i n)

        no-early : early_of g i ≡ None
        no-early = at (early_of g i) refl
          where
            at : (o : Option ℕ) → early_of g i ≡ o → early_of g i ≡ None
            at None e = e
            at (Some l) e = let (u, e', a) = un-byte t sh s₀ st 0 i l 0 n e (omega arith) in absurd (none-some (sym (zero-edge z 0) ∙ e'))

        no_edge : (c : ℕ) → to g i c ≡ None
        no_edge c = un-to t sh s₀ st 0 i n c ∙ ap (led names) (zero-edge z c)

        go : Why g i → FromRoot g i
        go (has-accept e) = absurd (e no-accept)
        go (has-early e) = absurd (e no-early)
        go (is-root e) = subst (FromRoot g) e at-root
        go (has-edge c u e) = absurd (none-some (sym (no_edge c) ∙ e))

    pub kept-reached : (i : ℕ) → In (kept g) i → FromRoot g i
    kept-reached i h = let (s, n) = un-onto i (kept-below g i h) in go s n
      where
        go : (s : ℕ) → Named names s i → FromRoot g i
        go zero n = zero-kept i n h
        go (suc s) n = path (suc s) (reached-sound t s₀ (suc s) (in-number 0 (reached t s₀) (suc s) i n)) (λ e. omega arith) i n
