-- One turn of a walk over a text, and its end. Assumes nothing.
use Rattle.std.specs.Prelude.{Option, Some, None}
use mathlib.Core.Path.{◌≡◌, refl, sym, ap, ◌∙◌}
use mathlib.Core.List.{List}
use Prim.Native.Nat.{ℕ, suc, ◌+◌, ◌<◌}
use native.Mathlib.Omega.{arith}
use native.Mathlib.Numerals.{add-one}
use lib.ListN.{length, get_or, drop}
use Rattle.graph_rules.specs.Read.{Reading, onward, Walker, walk}
use Rattle.graph_rules.specs.Layout.{end_step}
use Rattle.graph_rules.proofs.Walks.{walk_at, walk-done}

-- what is left of it, from state s after k bytes with the record r
unfoldable pub rest : Walker → List ℕ → ℕ → ℕ → Reading → Reading
rest v text s k r = walk v s k r (drop k text)

pub rest-all : (v : Walker) (text : List ℕ) (s : ℕ) (r : Reading) → rest v text s 0 r ≡ walk v s 0 r text
unfolding rest
rest-all v text s r = refl

-- it is in one of n states, and what is left of it is the reading R
pub record Walking (v : Walker) (n : ℕ) (text : List ℕ) (R : Reading) (s k : ℕ) (r : Reading) : Type 0 where
  pub state : s < n
  pub left : rest v text s k r ≡ R

-- one turn: q the record at the state
module _ {v : Walker} {n : ℕ} {text : List ℕ} {R : Reading} {s k : ℕ} {r q : Reading} (w : Walking v n text R s k r) (marked : v.enter s k r ≡ q) where
  led : k < length text → (o : Option ℕ) → v.next s (get_or text k 0) ≡ o → onward q (λ u. rest v text u (suc k) q) o ≡ R
  unfolding rest
  led more o e = rw (← marked, ← e) (sym (walk_at v s k r text more) ∙ w.left)

  pub turn-stops : k < length text → v.next s (get_or text k 0) ≡ None → q ≡ R
  turn-stops more e = led more None e

  pub turn-goes : {u : ℕ} → k < length text → u < n → v.next s (get_or text k 0) ≡ Some u → Walking v n text R u (k + 1) q
  turn-goes {u} more h e = record { state = h; left = rw (add-one k) (led more (Some u) e) }

-- the end: q the record at the state that the last byte has led to
module _ {v : Walker} {n : ℕ} {text : List ℕ} {R : Reading} {s k : ℕ} {r : Reading} (w : Walking v n text R s k r) (done : k ≡ length text) where
  pub turn-ends : {q : Reading} → v.enter s (length text) r ≡ q → onward q (λ u. v.leave u (length text) q) (v.next s end_step) ≡ R
  unfolding rest
  turn-ends marked =
      rw (← marked)
      (sym (walk-done v s (length text) r text (omega arith)) ∙ ap (λ (x : ℕ). walk v s x r (drop x text)) (sym done) ∙ w.left)
