-- `words::fill` meets its contract. Assumes nothing.
use Rattle.std.proofs.Common.{◌≡◌, ℕ, ◌-◌, arith, ap, ◌∙◌, length, take, drop, length-take, length-drop, List}
use lib.ListN.{replicate, length-replicate}
use borrow.Rule.Slice.PartMut.{put_mid}
use Rattle.vectors.proofs.Spread.{put_mid-sets}
use Rattle.vectors.proofs.words.fill.Goals as goal

pub returns : goal.returns
returns c =
    let a = c.args in
    let n : length (take (a.j - a.i) (drop a.i a.words.now)) ≡ a.j - a.i = simp (length-take, length-drop) (omega arith) in
    let long = length-replicate (a.j - a.i) a.value in
    ap (λ (part : List ℕ). put_mid a.i (a.j - a.i) a.words.now part) (c.fill.ensures.after (λ y e. e) ∙ ap (λ (k : ℕ). replicate k a.value) n)
    ∙ put_mid-sets a.words.now a.i (a.j - a.i) (replicate (a.j - a.i) a.value) long (omega arith)
