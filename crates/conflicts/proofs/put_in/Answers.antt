-- What stands from p on moves one place on, and the new element takes that place. Assumes nothing.
use mathlib.Core.Path.{◌≡◌, ap, ◌∙◌}
use mathlib.Core.List.{List, ◌++◌, append_assoc}
use Prim.Native.Nat.{ℕ, suc, ◌+◌, ◌-◌, ◌≤◌}
use native.Mathlib.Numerals.{add-one}
use native.Mathlib.Omega.{arith}
use lib.ListN.{set, take, drop}
use Rattle.std.specs.List.{copy_within}
use Rattle.conflicts.proofs.Slotted.{shifted, shifted-last}
use Rattle.conflicts.proofs.put_in.Goals as goal

moved : (l : List ℕ) (p k : ℕ) → p ≤ k → copy_within l p k (p + 1) ≡ shifted l k p
unfolding shifted
moved l p k h =
    let e : p + 1 + (k - p) ≡ suc k = omega arith in
    append_assoc (take (p + 1) l) (take (k - p) (drop p l)) (drop (p + 1 + (k - p)) l)
    ∙ ap (λ (n : ℕ). take (p + 1) l ++ (take (k - p) (drop p l) ++ drop n l)) e
    ∙ ap (λ (n : ℕ). take n l ++ (take (k - p) (drop p l) ++ drop (suc k) l)) (add-one p)

pub returns : goal.returns
returns c =
    ap (λ (o : List ℕ). set o c.args.p c.args.v) (c.copy_within.ensures.after ∙ moved c.args.order.now c.args.p c.args.count c.requires.p_le_count)
    ∙ shifted-last c.args.order.now c.args.count (omega arith) c.args.p c.args.v c.requires.p_le_count
