-- The homomorphism law: where one walker follows another, step for step, both read alike. It serves every renumbering of a graph: that of rule 2,
-- that after the prune, and each round of the merge. A step may be missing in the follower where it leads to a state from which nothing is recorded.
-- Assumes nothing.
use Rattle.std.specs.Prelude.{Option, Some, None}
use mathlib.Core.Path.{◌≡◌, refl, sym}
use mathlib.Core.List.{List, [], ◌∷◌}
use Prim.Native.Nat.{ℕ, suc, ◌≤◌, ◌<◌}
use lib.ListN.{length, get_or, drop, drop_of_length-le}
use lib.Seq.{drop-cons}
use Rattle.graph_rules.specs.Graph.{Graph, to, accept_of, early_of}
use Rattle.graph_rules.specs.Read.{Reading, Walker, late, onward, walk, graph_walker}
use Rattle.graph_rules.specs.Layout.{end_step}

-- nothing is recorded at a state, nor after it
pub record Quiet (v : Walker) (s : ℕ) : Type 0 where
  pub still : (k : ℕ) (r : Reading) → v.leave s k r ≡ r
  pub mute : (k : ℕ) (r : Reading) (text : List ℕ) → walk v s k r text ≡ r

-- a step of v, and the step of its follower: R relates the states
pub data Led (v : Walker) (R : ℕ → ℕ → Type 0) : Option ℕ → Option ℕ → Type 0 where
  ends : Led v R None None
  goes : {s i : ℕ} → R s i → Led v R (Some s) (Some i)
  drops : {s : ℕ} → Quiet v s → Led v R (Some s) None

pub record Follows (v w : Walker) (R : ℕ → ℕ → Type 0) : Type 0 where
  pub enters : (s i : ℕ) → R s i → (k : ℕ) (r : Reading) → w.enter i k r ≡ v.enter s k r
  pub leaves : (s i : ℕ) → R s i → (k : ℕ) (r : Reading) → w.leave i k r ≡ v.leave s k r
  pub steps : (s i : ℕ) → R s i → (c : ℕ) → Led v R (v.next s c) (w.next i c)

onward-alike : (v : Walker) (R : ℕ → ℕ → Type 0) (o b : Option ℕ) → Led v R o b → (q : Reading) (f g : ℕ → Reading)
    → ((s i : ℕ) → R s i → g i ≡ f s) → ((s : ℕ) → Quiet v s → f s ≡ q) → onward q g b ≡ onward q f o
onward-alike v R o b ends q f g same quiet = refl
onward-alike v R o b (goes {s} {i} r) q f g same quiet = same s i r
onward-alike v R o b (drops {s} m) q f g same quiet = sym (quiet s m)

module _ (v w : Walker) (R : ℕ → ℕ → Type 0) (fol : Follows v w R) where
  pub follows-walk : (text : List ℕ) (s i : ℕ) → R s i → (k : ℕ) (r : Reading) → walk w i k r text ≡ walk v s k r text
  follows-walk [] s i h k r =
      rw (fol.enters s i h k r)
      (onward-alike v R _ _ (fol.steps s i h end_step) (v.enter s k r) _ _ (λ u j h'. fol.leaves u j h' k (v.enter s k r)) (λ u m. m.still k (v.enter s k r)))
  follows-walk (b ∷ text) s i h k r =
      rw (fol.enters s i h k r)
      (onward-alike v R _ _ (fol.steps s i h b) (v.enter s k r) _ _
      (λ u j h'. follows-walk text u j h' (suc k) (v.enter s k r)) (λ u m. m.mute (suc k) (v.enter s k r) text))

-- ---- a walk by the places of its text: what a loop over k needs

pub walk_at : (w : Walker) (s k : ℕ) (r : Reading) (text : List ℕ) → k < length text
    → walk w s k r (drop k text) ≡ onward (w.enter s k r) (λ u. walk w u (suc k) (w.enter s k r) (drop (suc k) text)) (w.next s (get_or text k 0))
walk_at w s k r text h = rw (drop-cons text k 0 h)

pub walk-done : (w : Walker) (s k : ℕ) (r : Reading) (text : List ℕ) → length text ≤ k
    → walk w s k r (drop k text) ≡ onward (w.enter s k r) (λ u. w.leave u k (w.enter s k r)) (w.next s end_step)
walk-done w s k r text h = rw (drop_of_length-le text h)

-- ---- graphs

module _ (g g' : Graph) (R : ℕ → ℕ → Type 0) where
  -- marks agree, and steps are led
  pub graph-follows : ((s i : ℕ) → R s i → accept_of g' i ≡ accept_of g s) → ((s i : ℕ) → R s i → early_of g' i ≡ early_of g s)
      → ((s i : ℕ) → R s i → (c : ℕ) → Led (graph_walker g) R (to g s c) (to g' i c)) → Follows (graph_walker g) (graph_walker g') R
  unfolding graph_walker
  graph-follows a e f =
      record {
        enters = λ s i h k r. rw (a s i h, e s i h);
        leaves = λ s i h k r. rw (a s i h);
        steps = f;
      }

-- a state without marks whose edges, if any, lead to such states again
pub graph-quiet : (g : Graph) (Q : ℕ → Type 0) → ((s : ℕ) → Q s → accept_of g s ≡ None) → ((s : ℕ) → Q s → early_of g s ≡ None)
    → ((s c u : ℕ) → Q s → to g s c ≡ Some u → Q u) → (s : ℕ) → Q s → Quiet (graph_walker g) s
unfolding graph_walker
graph-quiet g Q a e f s h = record { still = λ k r. rw (a s h); mute = λ k r text. go text s h k r }
  where
    end : (o : Option ℕ) (s : ℕ) → Q s → to g s end_step ≡ o → (k : ℕ) (r : Reading) → onward r (λ u. late (accept_of g u) (suc k) r) o ≡ r
    end None s h q k r = refl
    end (Some u) s h q k r = rw (a u (f s end_step u h q))

    on : (text : List ℕ) → ((s : ℕ) → Q s → (k : ℕ) (r : Reading) → walk (graph_walker g) s k r text ≡ r)
        → (o : Option ℕ) (s b : ℕ) → Q s → to g s b ≡ o → (k : ℕ) (r : Reading) → onward r (λ u. walk (graph_walker g) u (suc k) r text) o ≡ r
    on text ih None s b h q k r = refl
    on text ih (Some u) s b h q k r = ih u (f s b u h q) (suc k) r

    go : (text : List ℕ) (s : ℕ) → Q s → (k : ℕ) (r : Reading) → walk (graph_walker g) s k r text ≡ r
    go [] s h k r = rw (e s h, a s h) (end (to g s end_step) s h refl k r)
    go (b ∷ text) s h k r = rw (e s h, a s h) (on text (go text) (to g s b) s b h refl k r)
