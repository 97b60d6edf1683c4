-- What an edge word says. Assumes nothing.
use Rattle.std.proofs.Common.{◌≡◌, refl, sym, ap, ◌∙◌, Bool, true, false, ℕ, zero, suc, ◌-◌, eqb, eq-eqb, ne_eqb, arith}
use Rattle.plan_rules.specs.declared.EdgeWord.TheVariants.{Nothing, Tests, Mask, Table}
use Rattle.plan_rules.specs.Plan.{table_word, test_said, edge_said}

said-by : (w : ℕ) (b : Bool) → eqb w table_word ≡ b → edge_said w ≡ elim b [ true ↦ Table | false ↦ test_said w ]
unfolding edge_said
said-by w b e = ap (λ (x : Bool). elim x [ true ↦ Table | false ↦ test_said w ]) e

module _ {w : ℕ} where
  pub said-table : w ≡ table_word → Table ≡ edge_said w
  said-table e = sym (said-by w true (eq-eqb w table_word e))

  pub said-other : (w ≡ table_word → ⊥) → edge_said w ≡ test_said w
  said-other n = said-by w false (ne_eqb w table_word n)

  pub said-nothing : w ≡ 0 → Nothing ≡ edge_said w
  said-nothing e = sym (said-other (λ q. omega arith) ∙ ap test_said e)

  pub said-tests : w ≡ 1 → Tests ≡ edge_said w
  said-tests e = sym (said-other (λ q. omega arith) ∙ ap test_said e)

  pub said-mask : (w ≡ table_word → ⊥) → (w ≡ 0 → ⊥) → (w ≡ 1 → ⊥) → Mask (w - 2) ≡ edge_said w
  said-mask t n o = go w n o ∙ sym (said-other t)
    where
      go : (x : ℕ) → (x ≡ 0 → ⊥) → (x ≡ 1 → ⊥) → Mask (x - 2) ≡ test_said x
      go zero a b = absurd (a refl)
      go (suc zero) a b = absurd (b refl)
      go (suc (suc i)) a b = let e : suc (suc i) - 2 ≡ i = omega arith in ap (λ (j : ℕ). Mask j) e
