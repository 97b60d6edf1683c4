-- Two states of well-formed graph words, compared by the words of their leaves and targets. Assumes nothing.
use Rattle.std.specs.Prelude.{None}
use mathlib.Core.Path.{◌≡◌, sym, ◌∙◌}
use mathlib.Core.Bool.{true, false}
use mathlib.Core.List.{List}
use Prim.Native.Nat.{ℕ, ◌<◌}
use native.Mathlib.Omega.{arith}
use lib.ListN.{get_or}
use lib.Seq.{ext_get_or}
use Rattle.lists.proofs.Bools.{Is, is, yes-is, no-is}
use Rattle.graph_rules.specs.Layout.{step_count}
use Rattle.graph_rules.specs.Graph.{State, state_of, to, accept_of, early_of, same, graph_from, graph_fits}
use Rattle.graph_rules.proofs.Flat.{from-width}
use Rattle.graph_rules.proofs.Merge.{same-sound}
use Rattle.graph_rules.proofs.Taken.{taken-long}

pub states-differ : (a b : State) → (a ≡ b → ⊥) → same a b ≡ false
states-differ a b n = go (is (same a b))
  where
    go : Is (same a b) → same a b ≡ false
    go (no-is q) = q
    go (yes-is q) = absurd (n (same-sound.eq a b q))

pub states-same : (a b : State) → a ≡ b → same a b ≡ true
states-same a b e = rw e (same-sound.self b)

pub twins : (w : List ℕ) → graph_fits w ≡ true → (s t : ℕ) → s < get_or w 0 0 → t < get_or w 0 0
    → accept_of (graph_from w) s ≡ accept_of (graph_from w) t
    → early_of (graph_from w) s ≡ early_of (graph_from w) t
    → ((c : ℕ) → c < step_count → to (graph_from w) s c ≡ to (graph_from w) t c)
    → state_of (graph_from w) s ≡ state_of (graph_from w) t
unfolding to accept_of early_of
twins w taken s t hs ht a b f = λ i. record { steps = steps i; accept = a i; early = b i }
  where
    steps : (state_of (graph_from w) s).steps ≡ (state_of (graph_from w) t).steps
    steps =
        let long = taken-long w taken in
        let ws = from-width w long s hs in
        ext_get_or None (state_of (graph_from w) s).steps (state_of (graph_from w) t).steps (ws ∙ sym (from-width w long t ht))
        (λ c h. f c (omega arith))
