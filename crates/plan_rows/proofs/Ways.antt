-- How a byte is tested for an edge, by whether it is the self edge and by what its class costs. Assumes nothing.
use Rattle.std.proofs.Common.{◌≡◌, sym, ap, ◌∙◌, [], ◌⊎◌, inl, inr, ℕ, ◌≤◌, ◌<◌, lt-ltb, le-ltb, eq-eqb, ne_eqb, ◌∷◌}
use Rattle.graph_rules.specs.Graph.{State}
use Rattle.classes.specs.Classes.{Class, cost}
use Rattle.edges.specs.Edges.{class_to}
use Rattle.plan_rules.specs.declared.Way.{Way}
use Rattle.plan_rules.specs.declared.Way.TheVariants.{BySelf, ByTests, ByMask}
use Rattle.plan_rules.specs.Plan.{base, way_to, masked}

module _ (st : State) (s u : ℕ) where
  pub way-self : u ≡ s → BySelf ≡ way_to base st s u
  unfolding way_to
  way-self e = sym (rw (eq-eqb u s e))

  module _ {c : Class} (same : c ≡ class_to st u) (other : u ≡ s → ⊥) where
    pub way-tests : cost c ≤ base.cost → ByTests ≡ way_to base st s u
    unfolding way_to
    way-tests h = sym (rw (ne_eqb u s other, ← same, le-ltb 2 (cost c) h))

    pub way-mask : base.cost < cost c → ByMask ≡ way_to base st s u
    unfolding way_to
    way-mask h = sym (rw (ne_eqb u s other, ← same, lt-ltb 2 (cost c) h))

-- two ways take no mask
pub unmasked : {w v : Way} (c : Class) → (w ≡ BySelf) ⊎ (w ≡ ByTests) → w ≡ v → masked v c ≡ []
unmasked c (inl e) q = ap (λ (x : Way). masked x c) (sym q ∙ e)
unmasked c (inr e) q = ap (λ (x : Way). masked x c) (sym q ∙ e)

pub masked-one : {w v : Way} (c : Class) → w ≡ ByMask → w ≡ v → c ∷ [] ≡ masked v c
masked-one c e q = ap (λ (x : Way). masked x c) (sym e ∙ q)
