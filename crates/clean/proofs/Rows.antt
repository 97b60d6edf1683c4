-- The rules on the words of a legal table: state 0 is dead just if its steps are all 0 and its chain has no first record (rule 2); the leaf of all that a
-- state's bytes lead to, from the leaf of each (rule 3). Assumes nothing.
use Rattle.std.specs.Prelude.{Option, Some, None}
use Rattle.std.specs.Option.{is_some, is_none}
use mathlib.Core.Path.{◌≡◌, refl, sym, ap, subst, ◌∙◌}
use mathlib.Core.Bool.{Bool, true, false, ◌&&◌}
use mathlib.Core.List.{List}
use Prim.Native.Nat.{ℕ, ◌<◌}
use native.Mathlib.Omega.{arith}
use borrow.Author.Tests.{eqb-true, eq-eqb, ne_eqb}
use lib.Dec.{eqb}
use lib.ListN.{length, get_or}
use Rattle.lists.specs.Lists.{all_l}
use Rattle.lists.proofs.Bools.{and-right-false, and-true}
use Rattle.lists.proofs.Elements.{all-at, all-intro}
use Rattle.lists.proofs.Judged.{Judged}
use Rattle.graph_rules.specs.Table.{Table, table_of, refusal, size, row_of, step}
use Rattle.graph_rules.specs.Graph.{or_none}
use Rattle.graph_rules.specs.Build.{chain, present}
use Rattle.graph_rules.specs.Clean.{zero_dead, bytes_leaf, endless}
use Rattle.graph_rules.proofs.Agreed.{agreed-all, agreed-none}
use Rattle.graph_rules.proofs.Cleanness.{byte_leaves, byte-leaves, byte-leaf}
use Rattle.graph_rules.proofs.Counts.{size_is}
use Rattle.graph_rules.proofs.Shape.{legal-shaped, legal-width, legal-step}
use Rattle.graph_rules.specs.Layout.{end_step, step_count}
use Rattle.legal.proofs.Legal.{legal-means}
use Rattle.legal.specs.declared.Record.{Record}
use Rattle.legal.specs.Records.{number_of}
use Rattle.clean.specs.Held.{LeavesOf}
use Rattle.clean.proofs.Ties.{chain-is}

module _ (w : List ℕ) (legal : refusal w ≡ 0) where
  -- ---- rule 2

  row_zero : length (row_of (table_of w) 0).steps ≡ step_count
  row_zero = let z = (legal-means w legal).sized in legal-width w legal 0 (rw (size_is w) (omega arith))

  pub steps-judged : Judged (all_l (eqb 0) (row_of (table_of w) 0).steps) step_count (λ c. step (table_of w) 0 c ≡ 0)
  unfolding step
  steps-judged =
      record {
        all = λ f. all-intro (eqb 0) (row_of (table_of w) 0).steps 0 (λ c h. let n = row_zero in eq-eqb 0 _ (sym (f c (omega arith))));
        each = λ e c h. let n = row_zero in sym (eqb-true 0 _ (all-at (eqb 0) (row_of (table_of w) 0).steps c 0 e (omega arith)));
      }

-- by its steps, and by the first record of its chain
module _ (w : List ℕ) where
  pub zero-not : all_l (eqb 0) (row_of (table_of w) 0).steps ≡ false → zero_dead (table_of w) ≡ false
  unfolding zero_dead
  zero-not e = and-right-false (eqb (length (chain (table_of w) 0)) 0) _ e

  pub zero-headed : all_l (eqb 0) (row_of (table_of w) 0).steps ≡ true → (o : Option Record) → number_of o ≡ or_none 0 (row_of (table_of w) 0).head
      → is_none o ≡ zero_dead (table_of w)
  unfolding zero_dead
  zero-headed e o at =
      chain-is (table_of w) 0 o at
      ∙ sym (and-true (eqb (length (chain (table_of w) 0)) 0))
      ∙ ap (λ (b : Bool). eqb (length (chain (table_of w) 0)) 0 && b) (sym e)

-- ---- rule 3

module _ (w : List ℕ) (legal : refusal w ≡ 0) (leaf : List (Option ℕ)) (held : LeavesOf w leaf) (s : ℕ) (h : s < get_or w 0 0) where
  abbrev t : Table
  t = table_of w

  -- the leaf of the state that byte b leads to
  abbrev pub leaf_by : ℕ → Option ℕ
  leaf_by b = get_or leaf (step t s b) None

  inside : s < size t
  inside = rw (size_is w) h

  by-leaf : (b : ℕ) → b < 256 → leaf_by b ≡ get_or (byte_leaves t (legal-shaped w legal) s inside) b None
  by-leaf b k =
      held _ (subst (λ (n : ℕ). step t s b < n) (size_is w) (legal-step w legal s b inside)) ∙ sym (byte-leaf t (legal-shaped w legal) s inside b k)

  pub bytes_same : ((b : ℕ) → b < 256 → leaf_by b ≡ leaf_by 0) → leaf_by 0 ≡ bytes_leaf t s
  unfolding bytes_leaf
  bytes_same f =
      let n = byte-leaves t (legal-shaped w legal) s inside in
      sym (agreed-all (byte_leaves t (legal-shaped w legal) s inside) (leaf_by 0) (omega arith)
      (λ b k. let k' : b < 256 = omega arith in sym (by-leaf b k') ∙ f b k'))

  pub bytes-differ : (b : ℕ) → b < 256 → (leaf_by b ≡ leaf_by 0 → ⊥) → None ≡ bytes_leaf t s
  unfolding bytes_leaf
  bytes-differ b k d =
      let n = byte-leaves t (legal-shaped w legal) s inside in
      sym (agreed-none (byte_leaves t (legal-shaped w legal) s inside) b (omega arith)
      (λ q. d (by-leaf b k ∙ q ∙ sym (by-leaf 0 (omega arith)))))

-- by the end step's target r, and the leaf of all that the bytes lead to
module _ (t : Table) (s r : ℕ) (e : r ≡ step t s end_step) where
  pub endless-not : (r ≡ 0 → ⊥) → endless t s ≡ false
  unfolding endless
  endless-not n = and-right-false (present (bytes_leaf t s)) _ (ne_eqb (step t s end_step) 0 (λ q. n (e ∙ q)))

  pub endless-leaf : r ≡ 0 → (o : Option ℕ) → o ≡ bytes_leaf t s → is_some o ≡ endless t s
  unfolding endless
  endless-leaf z o at = go o ∙ ap (λ (o : Option ℕ). present o && eqb (step t s end_step) 0) at
    where
      go : (o : Option ℕ) → is_some o ≡ (present o && eqb (step t s end_step) 0)
      go None = refl
      go (Some l) = sym (eq-eqb (step t s end_step) 0 (sym e ∙ z))
