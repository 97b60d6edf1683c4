-- A table and a graph over its states read alike, from three facts: the edges are the steps that do not lead to state 0; the steps of an early state
-- all lead to its leaf, the end step too; and an accept differs from the state's leaf only behind early states of that leaf. Assumes nothing.
--
-- The walks go side by side. On arrival at a state either both have recorded the same, or the state is early and the graph has recorded its leaf
-- already, one byte ahead of the table.
use Rattle.std.specs.Prelude.{Option, Some, None}
use mathlib.Core.Path.{◌≡◌, refl, sym, ap, ◌∙◌}
use mathlib.Core.List.{List, [], ◌∷◌}
use mathlib.Core.Logic.{◌⊎◌, ⊎_elim}
use Prim.Native.Nat.{ℕ, suc, ◌<◌}
use native.Mathlib.Omega.{arith}
use Rattle.lists.proofs.Bools.{none-some, some_inj}
use Rattle.graph_rules.specs.Table.{Table, step}
use Rattle.graph_rules.specs.Graph.{Graph, to, accept_of, early_of}
use Rattle.graph_rules.specs.Build.{leaf_of, edge}
use Rattle.graph_rules.specs.Read.{Reading, Walker, Bytes, late, mark, onward, walk, table_walker, graph_walker}
use Rattle.graph_rules.specs.Layout.{end_step, step_count}

pub record Facts (t : Table) (g : Graph) (R : ℕ → ℕ → Type 0) : Type 0 where
  pub ends : (s i c : ℕ) → R s i → c < step_count → edge (step t s c) ≡ None → to g i c ≡ None
  pub leads : (s i c u : ℕ) → R s i → c < step_count → edge (step t s c) ≡ Some u → (j : ℕ) × R u j × (to g i c ≡ Some j)
  pub early-leads : (s i l c : ℕ) → R s i → early_of g i ≡ Some l → c < step_count → (u : ℕ) × (edge (step t s c) ≡ Some u) × (leaf_of t u ≡ Some l)
  pub accept-or : (s i : ℕ) → R s i → (accept_of g i ≡ leaf_of t s) ⊎ (accept_of g i ≡ None)
  pub accept-after : (s i c u j : ℕ) → R s i → c < step_count → edge (step t s c) ≡ Some u → R u j → early_of g i ≡ None → accept_of g j ≡ leaf_of t u

-- the records p of the table and q of the graph at state i, after k bytes
data Arrived (g : Graph) (i k : ℕ) (p q : Reading) : Type 0 where
  level : early_of g i ≡ None → p ≡ q → Arrived g i k p q
  ahead : (l : ℕ) → early_of g i ≡ Some l → q ≡ Some (record { leaf = l; end = k }) → Arrived g i k p q

module _ (t : Table) (g : Graph) (R : ℕ → ℕ → Type 0) (f : Facts t g R) where
  -- a step to u and j: what is recorded for a leaf and for an accept
  late-alike : (s i c u j k : ℕ) (p q : Reading) → R s i → c < step_count → edge (step t s c) ≡ Some u → R u j → Arrived g i k p q
      → late (leaf_of t u) (suc k) p ≡ late (accept_of g j) (suc k) q
  late-alike s i c u j k p q r h e r' (level n a) = rw (f.accept-after s i c u j r h e r' n, a)
  late-alike s i c u j k p q r h e r' (ahead l n a) =
      let (v, e', m) = f.early-leads s i l c r n h in
      let m' : leaf_of t u ≡ Some l = ap (leaf_of t) (some_inj (sym e ∙ e')) ∙ m in
      ap (λ (o : Option ℕ). late o (suc k) p) m'
      ∙ ⊎_elim
      (λ x. ap (λ (o : Option ℕ). late o (suc k) q) (sym (x ∙ m')))
      (λ x. sym a ∙ ap (λ (o : Option ℕ). late o (suc k) q) (sym x))
      (f.accept-or u j r')

  arrives : (s i c u j k : ℕ) (p q : Reading) → R s i → c < step_count → edge (step t s c) ≡ Some u → R u j → Arrived g i k p q
      → Arrived g j (suc k) (late (leaf_of t u) (suc k) p) (mark (early_of g j) (accept_of g j) (suc k) q)
  arrives s i c u j k p q r h e r' a = go (early_of g j) refl
    where
      go : (o : Option ℕ) → early_of g j ≡ o → Arrived g j (suc k) (late (leaf_of t u) (suc k) p) (mark (early_of g j) (accept_of g j) (suc k) q)
      go None n = level n (late-alike s i c u j k p q r h e r' a ∙ ap (λ (o : Option ℕ). mark o (accept_of g j) (suc k) q) (sym n))
      go (Some l) n = ahead l n (ap (λ (o : Option ℕ). mark o (accept_of g j) (suc k) q) n)

  -- one step, byte or end, and what follows it
  step-alike : (s i c k : ℕ) (p q : Reading) (x y : ℕ → Reading) → R s i → c < step_count → Arrived g i k p q
      → ((u j : ℕ) → edge (step t s c) ≡ Some u → R u j → x u ≡ y j) → onward p x (edge (step t s c)) ≡ onward q y (to g i c)
  step-alike s i c k p q x y r h a same = go (edge (step t s c)) refl
    where
      stop : Arrived g i k p q → edge (step t s c) ≡ None → p ≡ q
      stop (level n b) e = b
      stop (ahead l n b) e = let (u, e', m) = f.early-leads s i l c r n h in absurd (none-some (sym e ∙ e'))

      go : (o : Option ℕ) → edge (step t s c) ≡ o → onward p x (edge (step t s c)) ≡ onward q y (to g i c)
      go None e = ap (onward p x) e ∙ stop a e ∙ ap (onward q y) (sym (f.ends s i c r h e))
      go (Some u) e =
          let (j, r', e') = f.leads s i c u r h e in
          ap (onward p x) e ∙ same u j e r' ∙ ap (onward q y) (sym e')

  -- the walks after arrival
  abbrev after : Walker → ℕ → ℕ → Reading → List ℕ → Reading
  after w s k q [] = onward q (λ u. w.leave u k q) (w.next s end_step)
  after w s k q (b ∷ text) = onward q (λ u. walk w u (suc k) q text) (w.next s b)

  walk_after : (w : Walker) (s k : ℕ) (r : Reading) (text : List ℕ) → walk w s k r text ≡ after w s k (w.enter s k r) text
  walk_after w s k r [] = refl
  walk_after w s k r (b ∷ text) = refl

  after-alike : (text : List ℕ) → Bytes text → (s i k : ℕ) (p q : Reading) → R s i → Arrived g i k p q
      → after (table_walker t) s k p text ≡ after (graph_walker g) i k q text
  unfolding table_walker graph_walker
  after-alike [] bytes s i k p q r a = step-alike s i end_step k p q _ _ r (omega arith) a (λ u j e r'. late-alike s i end_step u j k p q r (omega arith) e r' a)
  after-alike (b ∷ text) bytes s i k p q r a =
      let h : b < step_count = let h' : b < 256 = bytes 0 in omega arith in
      step-alike s i b k p q _ _ r h a (λ u j e r'.
      walk_after (table_walker t) u (suc k) p text
      ∙ after-alike text (λ m. bytes (suc m)) u j (suc k) _ _ r' (arrives s i b u j k p q r h e r' a)
      ∙ sym (walk_after (graph_walker g) j (suc k) q text))

  late-zero : (o : Option ℕ) → late o 0 None ≡ None
  late-zero None = refl
  late-zero (Some l) = refl

  -- from the start nothing has been recorded, unless the root is early
  pub walks-alike : (text : List ℕ) → Bytes text → (s i : ℕ) → R s i → walk (table_walker t) s 0 None text ≡ walk (graph_walker g) i 0 None text
  unfolding table_walker graph_walker
  walks-alike text bytes s i r =
      walk_after (table_walker t) s 0 None text ∙ after-alike text bytes s i 0 _ _ r (go (early_of g i) refl) ∙ sym (walk_after (graph_walker g) i 0 None text)
    where
      go : (o : Option ℕ) → early_of g i ≡ o → Arrived g i 0 (late (leaf_of t s) 0 None) (mark (early_of g i) (accept_of g i) 0 None)
      go None n = level n (late-zero (leaf_of t s) ∙ sym (ap (λ (o : Option ℕ). mark o (accept_of g i) 0 None) n ∙ late-zero (accept_of g i)))
      go (Some l) n = ahead l n (ap (λ (o : Option ℕ). mark o (accept_of g i) 0 None) n)
