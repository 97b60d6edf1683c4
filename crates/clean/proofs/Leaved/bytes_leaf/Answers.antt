-- The leaf of the state that each byte leads to is compared with the first's. Assumes nothing.
use Rattle.std.proofs.Common.{◌≡◌, sym, ap, ◌∙◌, rules, refl}
use Rattle.std.specs.Prelude.{Option, None}
use Rattle.std.specs.Option.{option_eq}
use mathlib.Core.Bool.{true, false}
use mathlib.Core.List.{List}
use lib.Dec.{eqb}
use Rattle.std.proofs.lemmas.Iterator.{serves_from_Range}
use Prim.Native.Nat.{ℕ, zero, suc, ◌≤◌, ◌<◌}
use native.Mathlib.Omega.{arith}
use lib.ListN.{get_or}
use Rattle.lists.proofs.Options.{options-eq, options-ne}
use Rattle.lists.proofs.Ranges.{all-told}
use Rattle.legal.proofs.Legal.{legal-sized}
use Rattle.clean.proofs.Rows.{leaf_by, bytes_same, bytes-differ}
use Rattle.clean.proofs.Leaved.bytes_leaf.Goals as goal

pub bounds-self-step : goal.bounds-self-step
bounds-self-step c = let z = legal-sized _ c.args.self.table.legal in omega arith

pub offset_bounds-self-step : goal.offset_bounds-self-step
offset_bounds-self-step c = let z = legal-sized _ c.args.self.table.legal in omega arith

pub all-requires-clause-callable : goal.all-requires-clause-callable
all-requires-clause-callable c =
    let z = legal-sized _ c.args.self.table.legal in
    serves_from_Range (λ x q k. search rules)
    (λ x a b. (
      λ κs p g e r u f l. (omega arith, omega arith),
      λ κs p g e r u f step. let h = step.ensures.1 in omega arith,
      λ κs p g e r u f step. let h = step.ensures.1 in omega arith,
    ))

-- the leaf of the state that a step leads to, compared
same : (leaf : List (Option ℕ)) (u v : ℕ) (o : Option ℕ) → u ≡ v → true ≡ option_eq eqb (get_or leaf u None) o → get_or leaf v None ≡ o
same leaf u v o e t = ap (λ (x : ℕ). get_or leaf x None) (sym e) ∙ options-eq (get_or leaf u None) o t

other : (leaf : List (Option ℕ)) (u v : ℕ) (o : Option ℕ) → u ≡ v → false ≡ option_eq eqb (get_or leaf u None) o → get_or leaf v None ≡ o → ⊥
other leaf u v o e f q = options-ne (get_or leaf u None) o f (ap (λ (x : ℕ). get_or leaf x None) e ∙ q)

-- byte 0 leads to its own leaf, so it is the others that are asked
rest : {leaf : ℕ → Option ℕ} {n : ℕ} → ((b : ℕ) → 1 ≤ b → b < n → leaf b ≡ leaf 0) → (b : ℕ) → b < n → leaf b ≡ leaf 0
rest f zero h = refl
rest f (suc b) h = f (suc b) (omega arith) h

pub returns-then-not-all : goal.returns-then-not-all
returns-then-not-all c =
    let w = c.args.self.table.words.now in
    let leaf = c.args.self.leaf.now in
    let told = all-told {P = λ b. Unit {0}} {N = λ b. leaf_by w c.args.self.table.legal leaf c.args.self.leaves c.args.s c.requires b ≡ get_or leaf c.step.result None → ⊥}
    _ _ _ c.all.result c.all.ensures.ran (λ x q k. search rules) (λ x q k. search (rules, other)) in
    let (i, l, b, d) = told.1 c.if-not-all.true in
    bytes-differ w c.args.self.table.legal leaf c.args.self.leaves c.args.s c.requires i b (λ e. d (e ∙ ap (λ (u : ℕ). get_or leaf u None) (sym c.step.ensures.0)))

pub returns : goal.returns
returns c =
    let w = c.args.self.table.words.now in
    let leaf = c.args.self.leaf.now in
    let first = ap (λ (u : ℕ). get_or leaf u None) c.step.ensures.0 in
    let told = all-told {P = λ b. leaf_by w c.args.self.table.legal leaf c.args.self.leaves c.args.s c.requires b ≡ get_or leaf c.step.result None} {N = λ b. Unit {0}}
    _ _ _ c.all.result c.all.ensures.ran (λ x q k. search (rules, same)) (λ x q k. tt) in
    first
    ∙ bytes_same w c.args.self.table.legal leaf c.args.self.leaves c.args.s c.requires
    (rest (λ k l h. told.0 c.if-not-all.false k l h ∙ first))
