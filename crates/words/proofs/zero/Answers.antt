-- What is filled is a run of zeros in the place of the words. Assumes nothing.
use mathlib.Core.Path.{◌≡◌, refl, sym, ap, ◌∙◌}
use mathlib.Core.List.{List, ◌++◌}
use Prim.Native.Nat.{ℕ, ◌+◌, ◌≤◌}
use native.Mathlib.Omega.{arith}
use borrow.Rule.Slice.PartMut.{put_mid}
use lib.ListN.{length, replicate, take, drop, length-replicate, length-drop}
use lib.Seq.{sets, sets-eq, length-take-le}
use Rattle.std.proofs.lemmas.Slice.{put_mid-paste}
use Rattle.std.proofs.lemmas.List.{take_all}
use Rattle.words.proofs.zero.Goals as goal

filled : (w ys : List ℕ) (a n : ℕ) → a + n ≤ length w → ys ≡ replicate (length (take n (drop a w))) 0 → put_mid a n w ys ≡ sets w a (replicate n 0)
filled w ys a n h e =
    let zs : List ℕ = replicate n 0 in
    let l : length zs ≡ n = length-replicate n 0 in
    let k : length (take n (drop a w)) ≡ n = length-take-le n (drop a w) (simp length-drop (omega arith)) in
    put_mid-paste a n w ys zs n (e ∙ ap (λ (k : ℕ). replicate k 0) k) refl (sym l)
    ∙ ap (λ (s : List ℕ). take a w ++ s ++ drop (a + n) w) (take_all n zs (omega arith))
    ∙ ap (λ (k : ℕ). take a w ++ zs ++ drop (a + k) w) (sym l)
    ∙ sym (sets-eq zs w a (omega arith))

pub returns : goal.returns
returns c = filled _ _ _ _ (omega arith) (c.fill.ensures.after (λ y e. e))
