-- Rule 6: a pass over all edges finds the states that some parent does not cover. Assumes nothing.
use Rattle.std.specs.Prelude.{Some}
use mathlib.Core.Path.{◌≡◌, sym, ap, subst, ◌∙◌}
use mathlib.Core.Bool.{Bool, true, false, not, ◌||◌, false≢true}
use mathlib.Core.List.{List}
use mathlib.Core.Logic.{inl, inr, ⊎_elim}
use Prim.Native.Nat.{ℕ, ◌+◌, ◌<◌}
use native.Mathlib.Omega.{arith}
use lib.ListN.{length, get_or, set, replicate, length-set, length-replicate}
use lib.Seq.{get_or-set_same}
use Rattle.lists.specs.Sets.{In}
use Rattle.lists.specs.Lists.{eq_option}
use Rattle.lists.proofs.Bools.{Is, is, yes-is, no-is, or_left, or_right, some_inj}
use Rattle.lists.proofs.Elements.{all-intro, all-false}
use Rattle.lists.proofs.Worklist.{in-keeps, in-cases, none_in}
use Rattle.graph_rules.specs.Graph.{State, Graph, blank, state_of, to, accept_of, early_of, leads}
use Rattle.graph_rules.specs.Build.{covered}
use Rattle.graph_rules.proofs.Views.{edge_leads, edge-within, leads-edge}
use Rattle.words.proofs.Edges.{Pass, pass-none, pass-more, pass-skip, pass-row}
use Rattle.graph_rules.specs.Layout.{most_states}

-- ---- covered

module _ (g : Graph) where
  -- edge c of state p uncovers state u
  abbrev pub Uncovers : ℕ → ℕ → ℕ → Type 0
  Uncovers p c u = (to g p c ≡ Some u) × (eq_option (early_of g p) (accept_of g u) ≡ false)

  abbrev test : ℕ → State → Bool
  test u p = not (leads p u) || eq_option p.early (accept_of g u)

  uncovers : (p c u : ℕ) → Uncovers p c u → covered g u ≡ false
  unfolding covered early_of state_of
  uncovers p c u e =
      all-false (test u) g.states p blank (edge-within g p c u e.0) (rw (edge_leads g p c u e.0) e.1)

  covers : (u : ℕ) → ((p c : ℕ) → Uncovers p c u → ⊥) → covered g u ≡ true
  unfolding covered early_of state_of
  covers u f = all-intro (test u) g.states blank (λ p h. one p (is (leads (state_of g p) u)))
    where
      one : (p : ℕ) → Is (leads (state_of g p) u) → test u (state_of g p) ≡ true
      one p (no-is q) = or_left _ _ (ap not q)
      one p (yes-is q) = or_right (not (leads (state_of g p) u)) _ (eq (is (eq_option (early_of g p) (accept_of g u))))
        where
          eq : Is (eq_option (early_of g p) (accept_of g u)) → eq_option (early_of g p) (accept_of g u) ≡ true
          eq (yes-is e) = e
          eq (no-is e) = let (c, t) = leads-edge g p u q in absurd (f p c (t, e))

  -- ---- the pass: what stands in the flags before edge c of state p

  pub record Passed (p c : ℕ) (out : List Bool) : Type 0 where
    pub len : length out ≡ most_states
    pub pass : Pass Uncovers p c (In out)

  pub passed_none : Passed 0 0 (replicate most_states false)
  passed_none =
      record {
        len = length-replicate {A = Bool} most_states false;
        pass = pass-none Uncovers (In (replicate most_states false)) (λ u i. false≢true (sym (none_in most_states u) ∙ i));
      }

  module _ (p c : ℕ) (out : List Bool) (v : Passed p c out) where
    pub passed-skip : ((u : ℕ) → Uncovers p c u → ⊥) → Passed p (c + 1) out
    passed-skip f = record { len = v.len; pass = pass-skip Uncovers p c (In out) v.pass f }

    pub passed-mark : (u : ℕ) → u < most_states → Uncovers p c u → Passed p (c + 1) (set out u true)
    passed-mark u h e =
        record {
          len = length-set out u true ∙ v.len;
          pass = pass-more Uncovers p c (In out) v.pass (In (set out u true))
              (λ x i. ⊎_elim (λ q. inr (subst (Uncovers p c) (sym q) e)) (λ j. inl j) (in-cases out u x i))
              (in-keeps out u)
              (λ x y. subst (In (set out u true)) (some_inj (sym e.0 ∙ y.0)) (get_or-set_same out u true false (let l = v.len in omega arith)));
        }

    pub passed-row : ((d u : ℕ) → to g p d ≡ Some u → d < c) → Passed (p + 1) 0 out
    passed-row wide = record { len = v.len; pass = pass-row Uncovers p c (In out) v.pass (λ d u e. wide d u e.0) }

  -- all have been passed
  pub passed-all : (out : List Bool) → Passed (length g.states) 0 out → (u : ℕ) → get_or out u false ≡ not (covered g u)
  passed-all out v u = go (is (get_or out u false))
    where
      go : Is (get_or out u false) → get_or out u false ≡ not (covered g u)
      go (yes-is i) = let (q, d, x) = v.pass.sound u i in i ∙ ap not (sym (uncovers q d u x))
      go (no-is i) = i ∙ ap not (sym (covers u (λ q d x. false≢true (sym i ∙ v.pass.all q d u (inl (edge-within g q d u x.0)) x))))
