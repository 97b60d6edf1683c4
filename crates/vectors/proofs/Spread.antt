-- Words in runs, one run at a time: what is spread, and what a buffer holds into which it is written. Assumes nothing.
use mathlib.Core.Path.{◌≡◌, sym, ap, ap₂, subst, subst₂, ◌∙◌}
use mathlib.Core.List.{List, [], ◌++◌, append_assoc}
use Prim.Native.Nat.{ℕ, suc, ◌+◌, ◌-◌, ◌≤◌, ◌<◌}
use native.Mathlib.Nat.{add-sub_cancel_left}
use native.Mathlib.Omega.{arith}
use borrow.Rule.Slice.PartMut.{put_mid}
use Rattle.std.proofs.lemmas.List.{drop-drop}
use Rattle.std.proofs.lemmas.List.Edits.{sets-eq}
use lib.ListN.{length, take, drop, replicate, length-append, length-replicate, replicate-append-replicate}
use lib.Seq.{sets, length-sets}
use Rattle.lists.proofs.Buffers.{sets-append, sets-past}
use Rattle.lists.proofs.Runs.{Underway, run_more}
use Rattle.vectors.specs.Reading.{half_at}
use Rattle.vectors.specs.Runs.{spread}

-- ---- one run more

module _ (list : List ℕ) (place k r : ℕ) where
  pub spread-more : r < k → spread list place (k - r) ≡ replicate (half_at list place) (half_at list (place + 2)) ++ spread list (place + 4) (k - (r + 1))
  unfolding spread
  spread-more h = let e : k - r ≡ suc (k - (r + 1)) = omega arith in ap (spread list place) e

  pub spread-longer : r < k → length (spread list place (k - r)) ≡ half_at list place + length (spread list (place + 4) (k - (r + 1)))
  spread-longer h =
      ap length (spread-more h)
      ∙ length-append (replicate (half_at list place) (half_at list (place + 2))) (spread list (place + 4) (k - (r + 1)))
      ∙ ap (λ (n : ℕ). n + length (spread list (place + 4) (k - (r + 1)))) (length-replicate (half_at list place) (half_at list (place + 2)))

  pub spread-done : k ≤ r → spread list place (k - r) ≡ []
  unfolding spread
  spread-done h = let e : k - r ≡ 0 = omega arith in ap (spread list place) e

-- ---- writing

module _ (list : List ℕ) (place k r : ℕ) {found all out : List ℕ} {from : ℕ} (more : r < k) (u : Underway found 0 all out from (spread list place (k - r))) where
  -- the run, written
  pub spread-run : (out' : List ℕ) (times v : ℕ) → times ≡ half_at list place → v ≡ half_at list (place + 2) → out' ≡ sets out from (replicate (from + times - from) v)
      → Underway found 0 all out' (from + times) (spread list (place + 4) (k - (r + 1)))
  spread-run out' times v t e w =
      let run = replicate (half_at list place) (half_at list (place + 2)) in
      let next = run_more run (spread list (place + 4) (k - (r + 1))) (subst (Underway found 0 all out from) (spread-more list place k r more) u) in
      let n : from + length run ≡ from + times = ap (λ (x : ℕ). from + x) (length-replicate (half_at list place) (half_at list (place + 2)) ∙ sym t) in
      let o : sets out from run ≡ out' = ap₂ (λ (x y : ℕ). sets out from (replicate x y)) (sym (add-sub_cancel_left from times ∙ t)) (sym e) ∙ sym w in
      subst₂ (λ (x : List ℕ) (y : ℕ). Underway found 0 all x y (spread list (place + 4) (k - (r + 1)))) o n next

-- ---- where a run has no room

module _ (list : List ℕ) (place k r : ℕ) {found all out : List ℕ} {from : ℕ} (more : r < k) (u : Underway found 0 all out from (spread list place (k - r)))
    (m : ℕ) (here : from + m ≡ length out) (short : m < half_at list place) where
  pub spread-past : (out' : List ℕ) (v : ℕ) → v ≡ half_at list (place + 2) → out' ≡ sets out from (replicate m v) → out' ≡ sets found 0 all
  spread-past out' v e w =
      let x = half_at list (place + 2) in
      let past = replicate (half_at list place - m) x ++ spread list (place + 4) (k - (r + 1)) in
      let n : m + (half_at list place - m) ≡ half_at list place = omega arith in
      let split : replicate m x ++ past ≡ spread list place (k - r) =
      sym (append_assoc (replicate m x) (replicate (half_at list place - m) x) (spread list (place + 4) (k - (r + 1))))
      ∙ ap (λ (l : List ℕ). l ++ spread list (place + 4) (k - (r + 1))) (replicate-append-replicate m (half_at list place - m) x ∙ ap (λ (i : ℕ). replicate i x) n)
      ∙ sym (spread-more list place k r more) in
      let l = length-replicate m x in
      let long = length-sets out from (replicate m x) in
      w
      ∙ ap (λ (y : ℕ). sets out from (replicate m y)) e
      ∙ sym (sets-past (sets out from (replicate m x)) (from + length (replicate m x)) past (omega arith))
      ∙ sym (sets-append out from (replicate m x) past)
      ∙ ap (sets out from) split
      ∙ u.same

  pub spread-many : length found < length all
  spread-many = let n = spread-longer list place k r more in let p = u.place in let l = u.long in omega arith

-- ---- a part of a buffer, overwritten

pub put_mid-sets : {A : Type 0} (l : List A) (i k : ℕ) (part : List A) → length part ≡ k → i + k ≤ length l → put_mid i k l part ≡ sets l i part
put_mid-sets {A = A} l i k part long room =
    ap (λ (rest : List A). take i l ++ (part ++ rest)) (drop-drop k i l ∙ ap (λ (n : ℕ). drop (i + n) l) (sym long))
    ∙ sym (append_assoc (take i l) part (drop (i + length part) l))
    ∙ sym (sets-eq part l i (omega arith))
