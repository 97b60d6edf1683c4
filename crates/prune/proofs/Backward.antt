-- Rule 7: a worklist over parents finds the states that are kept. Assumes nothing.
use mathlib.Core.Path.{◌≡◌, sym, ap, subst, ◌∙◌}
use mathlib.Core.Bool.{Bool, true, false, cond, ◌||◌}
use mathlib.Core.List.{List, [], ◌++◌}
use mathlib.Core.Logic.{⊎_elim}
use Prim.Native.Nat.{ℕ, ◌+◌, ◌*◌, ◌-◌, ◌/◌, ◌%◌, ◌≤◌, ◌<◌}
use native.Mathlib.Omega.{arith}
use lib.Dec.{eqb}
use lib.ListN.{length, get_or, replicate}
use Rattle.lists.specs.Sets.{In, Reach}
use Rattle.lists.proofs.Bools.{lt-or-le}
use Rattle.lists.proofs.Closure.{closure-is, closure-length}
use Rattle.lists.proofs.Padding.{padded}
use Rattle.lists.proofs.Worklist.{AllIn}
use Rattle.worklist.specs.Work.{Work}
use Rattle.worklist.proofs.Looking.{Looking, closed}
use Rattle.graph_rules.specs.Graph.{Graph, state_of, leads}
use Rattle.graph_rules.specs.Build.{marked, kept}
use Rattle.prune.specs.Matrix.{matrix_row, byte_of, bit_at}
use Rattle.prune.proofs.BitRows.{byte-none}
use Rattle.graph_rules.specs.Layout.{most_states}

module _ (g : Graph) where
  abbrev edge : ℕ → ℕ → Bool
  edge k s = leads (state_of g s) k

  abbrev pub seed : ℕ → Bool
  seed s = marked (state_of g s) || eqb g.root s

  -- what is found so far can reach a seed
  abbrev pub Good : ℕ → Type 0
  Good = Reach (λ k s. leads (state_of g s) k) (length g.states) seed

  -- what state j adds when state t is looked at: itself, if it is a parent
  abbrev pub found : ℕ → ℕ → ℕ
  found t j = cond (leads (state_of g j) t) j t

  -- P: what is being looked at now
  abbrev pub Search : (ℕ → Type 0) → Work → Type 0
  Search P w = Looking found (length g.states) Good P w

  -- a state that is no parent adds nothing, and one that is there already neither
  pub found_none : (out : List Bool) (t j : ℕ) → In out t → leads (state_of g j) t ≡ false → In out (found t j)
  found_none out t j i e = rw e i

  pub found-there : (out : List Bool) (t j : ℕ) → In out t → In out j → In out (found t j)
  found-there out t j i k = go (leads (state_of g j) t)
    where
      go : (b : Bool) → In out (cond b j t)
      go true = k
      go false = i

  -- eight states at once, whose byte of parents is zero
  pub found-byte : (m : List ℕ) → ((t p : ℕ) → t < most_states → p < most_states → bit_at m t p ≡ leads (state_of g p) t)
      → (out : List Bool) (t p : ℕ) → t < most_states → p < most_states → get_or m (byte_of t p) 0 ≡ 0 → In out t → AllIn (found t) out p
      → AllIn (found t) out (p + (8 - p % 8))
  found-byte m bits out t p ht hp e i all j h =
      ⊎_elim (λ l. all j l) (λ l.
      let q : j / 8 ≡ p / 8 = omega arith in
      let z : bit_at m t j ≡ false = byte-none m t j (ap (λ (k : ℕ). get_or m (matrix_row * t + k) 0) q ∙ e) in
      found_none out t j i (sym (bits t j ht (omega arith)) ∙ z))
      (lt-or-le j p)

  -- nothing is left to look at
  pub search-done : (w : Work) → length w.seen ≡ most_states → length g.states ≤ most_states → w.waiting ≡ [] → Search (λ _. ⊥) w
      → ((s : ℕ) → s < length g.states → seed s ≡ true → In w.seen s) → w.seen ≡ kept g ++ replicate (most_states - length g.states) false
  unfolding kept
  search-done w len fits none v seeds =
      let n = length g.states in
      let e = closure-length edge n seed in
      padded false w.seen (kept g) most_states len (omega arith)
      (closure-is edge n seed w.seen seeds
      (λ k t i h l. subst (In w.seen) (ap (λ (b : Bool). cond b t k) l) (closed found n Good w none v k i t h))
      v.good)
      ∙ ap (λ (x : ℕ). kept g ++ replicate (most_states - x) false) e
