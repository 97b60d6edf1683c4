-- Early marks (rule 5) and cleared accepts (rule 6): what each says of a state, of any graph. Assumes nothing.
use Rattle.std.specs.Prelude.{Option, Some, None}
use mathlib.Core.Path.{◌≡◌, refl, sym, ap, subst, ◌∙◌}
use mathlib.Core.Bool.{Bool, true, not, ◌||◌}
use mathlib.Core.List.{List, [], ◌∷◌, ◌++◌, map}
use mathlib.Core.Logic.{◌⊎◌, inl, inr, ⊎_elim}
use Prim.Native.Nat.{ℕ, zero, suc, ◌+◌, ◌≤◌, ◌<◌}
use native.Mathlib.Omega.{arith}
use lib.ListN.{length, get_or, take, drop, length-map, length-append, get_or-map, get_or-append}
use lib.Seq.{get_or-take, drop-cons, length-take-le, get_or-append_seam}
use Rattle.lists.specs.Lists.{below, those, eq_option}
use Rattle.lists.proofs.Elements.{get_or-tab0, length-tab, all-at, map_at, option-sound}
use Rattle.lists.proofs.Bools.{Is, is, no-is, none-some, lt-or-le, yes-is}
use Rattle.lists.proofs.Those.{those-yes}
use Rattle.graph_rules.specs.Graph.{State, Graph, blank, state_of, to, accept_of, early_of, leads}
use Rattle.graph_rules.specs.Build.{present, children, accept_by, agreed, with_early, covered, cleared, with_cleared}
use Rattle.graph_rules.proofs.Agreed.{agreed-at}
use Rattle.graph_rules.proofs.Views.{edge_leads, edge-within, out-blank}
use Rattle.graph_rules.specs.Layout.{end_step, step_count}

some-within : (l : List (Option ℕ)) (i x : ℕ) → get_or l i None ≡ Some x → i < length l
some-within [] i x e = absurd (none-some e)
some-within (o ∷ l) zero x e = omega arith
some-within (o ∷ l) (suc i) x e = let h = some-within l i x e in omega arith

module _ (g : Graph) where
  -- ---- rule 5

  pub early-state : (i : ℕ) → state_of (with_early g) i ≡
      record { steps = (state_of g i).steps; accept = (state_of g i).accept; early = agreed (map (accept_by g) (children (state_of g i))) }
  unfolding state_of with_early children
  early-state i = get_or-map _ g.states i blank

  pub early-to : (i c : ℕ) → to (with_early g) i c ≡ to g i c
  unfolding to
  early-to i c = ap (λ (s : State). get_or s.steps c None) (early-state i)

  pub early-accept : (i : ℕ) → accept_of (with_early g) i ≡ accept_of g i
  unfolding accept_of
  early-accept i = ap (λ (s : State). s.accept) (early-state i)

  pub early-early : (i : ℕ) → early_of (with_early g) i ≡ agreed (map (accept_by g) (children (state_of g i)))
  unfolding early_of
  early-early i = ap (λ (s : State). s.early) (early-state i)

  pub early-length : length (with_early g).states ≡ length g.states
  unfolding with_early
  early-length = length-map g.states _

  -- a child's accept is the early leaf
  early-child : (i l k : ℕ) → early_of (with_early g) i ≡ Some l → k < length (children (state_of g i)) → accept_by g (get_or (children (state_of g i)) k None) ≡ Some l
  early-child i l k e h =
      let c = children (state_of g i) in
      sym (get_or-map (accept_by g) c k None)
      ∙ agreed-at (map (accept_by g) c) l (sym (early-early i) ∙ e) k (rw (length-map c (accept_by g)) h)

  accept-by : (l : ℕ) (o : Option ℕ) → accept_by g o ≡ Some l → (u : ℕ) × (o ≡ Some u) × (accept_of g u ≡ Some l)
  accept-by l None e = absurd (none-some e)
  accept-by l (Some u) e = (u, refl, e)

  -- an early state's steps all lead to that leaf: by every byte, and by the end if it has an edge
  pub early-byte : (i l b : ℕ) → early_of (with_early g) i ≡ Some l → 256 ≤ length (state_of g i).steps → b < 256
      → (u : ℕ) × (to g i b ≡ Some u) × (accept_of g u ≡ Some l)
  unfolding children to
  early-byte i l b e w h =
      let s = state_of g i in
      let rest = those present (drop end_step s.steps) in
      let long : length (take end_step s.steps) ≡ 256 = length-take-le 256 s.steps w in
      let at : get_or (children s) b None ≡ get_or s.steps b None =
      get_or-append (take end_step s.steps) rest None b (omega arith) ∙ get_or-take end_step s.steps b None h in
      let size : length (children s) ≡ length (take end_step s.steps) + length rest = length-append (take end_step s.steps) rest in
      accept-by l (get_or s.steps b None) (ap (accept_by g) (sym at) ∙ early-child i l b e (omega arith))

  pub early-end : (i l j : ℕ) → early_of (with_early g) i ≡ Some l → to g i end_step ≡ Some j → accept_of g j ≡ Some l
  unfolding children to
  early-end i l j e q =
      let s = state_of g i in
      let p : Option ℕ → Bool = present in
      let front = take end_step s.steps in
      let split : drop end_step s.steps ≡ Some j ∷ drop step_count s.steps =
      drop-cons s.steps end_step None (some-within s.steps end_step j q) ∙ ap (λ (o : Option ℕ). o ∷ drop step_count s.steps) q in
      let rest = those p (drop step_count s.steps) in
      let all : children s ≡ front ++ Some j ∷ rest =
      ap (λ (m : List (Option ℕ)). front ++ m) (ap (those p) split ∙ those-yes p (Some j) (drop step_count s.steps) refl) in
      let size : length (children s) ≡ length front + length (Some j ∷ rest) = ap length all ∙ length-append front (Some j ∷ rest) in
      let at : get_or (children s) (length front) None ≡ Some j = ap (λ (m : List (Option ℕ)). get_or m (length front) None) all ∙ get_or-append_seam front (Some j) rest None in
      ap (accept_by g) (sym at) ∙ early-child i l (length front) e (omega arith)

  -- ---- rule 6

  pub cleared-length : length (with_cleared g).states ≡ length g.states
  unfolding with_cleared
  cleared-length = length-map (below (length g.states)) (cleared g) ∙ length-tab 0 (length g.states) (λ i. i)

  pub cleared-state : (i : ℕ) → i < length g.states → state_of (with_cleared g) i ≡ cleared g i
  unfolding state_of with_cleared
  cleared-state i h =
      map_at (cleared g) (below (length g.states)) i 0 blank (rw (length-tab 0 (length g.states) (λ i. i)) h)
      ∙ ap (cleared g) (get_or-tab0 (length g.states) (λ i. i) i 0 h)

  cleared-out : (i : ℕ) → length g.states ≤ i → state_of (with_cleared g) i ≡ state_of g i
  cleared-out i h = out-blank (with_cleared g) i (rw cleared-length h) ∙ sym (out-blank g i h)

  pub cleared-to : (i c : ℕ) → to (with_cleared g) i c ≡ to g i c
  unfolding to cleared
  cleared-to i c =
      ⊎_elim
      (λ h. ap (λ (s : State). get_or s.steps c None) (cleared-state i h))
      (λ h. ap (λ (s : State). get_or s.steps c None) (cleared-out i h))
      (lt-or-le i (length g.states))

  pub cleared-early : (i : ℕ) → early_of (with_cleared g) i ≡ early_of g i
  unfolding early_of cleared
  cleared-early i =
      ⊎_elim (λ h. ap (λ (s : State). s.early) (cleared-state i h)) (λ h. ap (λ (s : State). s.early) (cleared-out i h))
      (lt-or-le i (length g.states))

  pub cleared-accept : (i : ℕ) → i < length g.states
      → ((covered g i ≡ true) × (accept_of (with_cleared g) i ≡ None)) ⊎ (accept_of (with_cleared g) i ≡ accept_of g i)
  unfolding accept_of cleared
  cleared-accept i h = go (is (covered g i))
    where
      go : Is (covered g i) → ((covered g i ≡ true) × (accept_of (with_cleared g) i ≡ None)) ⊎ (accept_of (with_cleared g) i ≡ accept_of g i)
      go (yes-is q) = inl (q, ap (λ (s : State). s.accept) (cleared-state i h) ∙ rw q)
      go (no-is q) = inr (ap (λ (s : State). s.accept) (cleared-state i h) ∙ rw q)

  -- a parent of a covered state has its leaf as early
  pub covered-parent : (p c i : ℕ) → to g p c ≡ Some i → covered g i ≡ true → early_of g p ≡ accept_of g i
  unfolding covered early_of state_of
  covered-parent p c i e h =
      let a = all-at (λ p. not (leads p i) || eq_option p.early (accept_of g i)) g.states p blank h (edge-within g p c i e) in
      option-sound.eq (early_of g p) (accept_of g i) (subst (λ (b : Bool). (not b || eq_option (early_of g p) (accept_of g i)) ≡ true) (edge_leads g p c i e) a)
