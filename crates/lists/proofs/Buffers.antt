-- A buffer that is written from the front, or from a place on: what is written, and the rest unchanged. `sets` (lib.Seq) stores a run of elements one
-- by one; those that pass the end are not stored. Assumes nothing.
use mathlib.Core.Path.{◌≡◌, refl, sym, ap, ◌∙◌}
use mathlib.Core.List.{List, [], ◌∷◌, ◌++◌, append_assoc}
use mathlib.Core.Logic.{◌⊎◌, inl, inr, ⊎_elim}
use Prim.Native.Nat.{ℕ, suc, ◌+◌, ◌-◌, ◌≤◌, ◌<◌}
use native.Mathlib.Nat.{add-zero}
use borrow.Rule.Slice.PartMut.{put_mid}
use native.Mathlib.Omega.{arith}
use lib.ListN.{length, get_or, take, drop, set, length-append, length-drop, get_or-append}
use lib.Seq.{sets, sets-eq, set_out, set_at, drop-cons, drop-drop, drop_at, take_at, ext_get_or, length-take-le, get_or-drop, get_or-append-add, get_or-set_other}

-- ---- a run of stores

module _ {A : Type 0} where
  -- one run after another is the run of both
  pub sets-append : (o : List A) (at : ℕ) (a b : List A) → sets o at (a ++ b) ≡ sets (sets o at a) (at + length a) b
  sets-append o at [] b = ap (λ (k : ℕ). sets o k b) (sym (add-zero at))
  sets-append o at (x ∷ a) b =
      let e : suc at + length a ≡ at + suc (length a) = omega arith in
      sets-append (set o at x) (suc at) a b ∙ ap (λ (k : ℕ). sets (sets (set o at x) (suc at) a) k b) e

  -- past the end nothing is stored
  pub sets-past : (o : List A) (at : ℕ) (t : List A) → length o ≤ at → sets o at t ≡ o
  sets-past o at [] h = refl
  sets-past o at (x ∷ t) h =
      let e : set o at x ≡ o = set_out o at x h in
      ap (λ (l : List A). sets l (suc at) t) e ∙ sets-past o (suc at) t (omega arith)

  -- from the front, where there is room: the run, and the rest unchanged
  pub sets-front : (o t : List A) → length t ≤ length o → sets o 0 t ≡ t ++ drop (length t) o
  sets-front o t h =
      let e : 0 + length t ≡ length t = omega arith in
      sets-eq t o 0 (omega arith) ∙ ap (λ (k : ℕ). t ++ drop k o) e

  -- a run copied to the part up to a place
  pub sets-part : (o t : List A) (at to : ℕ) {part : List A} → part ≡ t → to ≡ at + length t → to ≤ length o → put_mid at (to - at) o part ≡ sets o at t
  sets-part o t at to {part} e n h =
      let k : at + (to - at) ≡ at + length t = omega arith in
      (λ i. take at o ++ (e i ++ drop (to - at) (drop at o)))
      ∙ ap (λ (x : List A). take at o ++ (t ++ x)) (drop-drop (to - at) at o ∙ ap (λ (m : ℕ). drop m o) k)
      ∙ sym (append_assoc (take at o) t (drop (at + length t) o))
      ∙ sym (sets-eq t o at (omega arith))

-- element by element, with a default
module _ {A : Type 0} (d : A) where
  pub sets-within : (o : List A) (at : ℕ) (t : List A) (i : ℕ) → at + length t ≤ length o → at ≤ i → i < at + length t → get_or (sets o at t) i d ≡ get_or t (i - at) d
  sets-within o at t i room low high =
      let front = take at o in
      let back = drop (at + length t) o in
      let place : i ≡ length front + (i - at) = let e = length-take-le at o (omega arith) in omega arith in
      ap (λ (l : List A). get_or l i d) (sets-eq t o at room ∙ append_assoc front t back)
      ∙ ap (λ (k : ℕ). get_or (front ++ (t ++ back)) k d) place
      ∙ get_or-append-add front (t ++ back) (i - at) d
      ∙ get_or-append t back d (i - at) (omega arith)

  -- all before and after the run stays
  pub sets-away : (o : List A) (at : ℕ) (t : List A) (i : ℕ) → (i < at) ⊎ (at + length t ≤ i) → get_or (sets o at t) i d ≡ get_or o i d
  sets-away o at [] i h = refl
  sets-away o at (x ∷ t) i h =
      sets-away (set o at x) (suc at) t i (⊎_elim (λ l. inl (omega arith)) (λ l. inr (omega arith)) h)
      ∙ get_or-set_other o at i x d (λ q. ⊎_elim (λ l. omega arith) (λ l. omega arith) h)

  -- lists that are the same from some place on
  pub same_after : (a : ℕ) (v w : List A) → length w ≡ length v → ((i : ℕ) → a ≤ i → get_or w i d ≡ get_or v i d) → drop a w ≡ drop a v
  same_after a v w len same =
      ext_get_or d (drop a w) (drop a v) (length-drop a w ∙ rw len (sym (length-drop a v)))
      (λ i h. get_or-drop a w i d ∙ same (a + i) (omega arith) ∙ sym (get_or-drop a v i d))

-- ---- a buffer whose first elements are `text`, the rest being unchanged

module _ {A : Type 0} where
  pub record Filled (found text out : List A) : Type 0 where
    pub room : length text ≤ length found
    pub holds : out ≡ text ++ drop (length text) found

  pub filled_none : (found : List A) → Filled found [] found
  filled_none found = record { room = omega arith; holds = refl }

  pub filled-length : {found text out : List A} → Filled found text out → length out ≡ length found
  filled-length {found} {text} f =
      ap length f.holds ∙ length-append text (drop (length text) found) ∙ (let e = length-drop (length text) found in let r = f.room in omega arith)

  -- the text again, and the rest
  pub filled-text : {found text out : List A} → Filled found text out → take (length text) out ≡ text
  filled-text {found} {text} f = ap (take (length text)) f.holds ∙ take_at text (drop (length text) found) (length text) refl

  pub filled-rest : {found text out : List A} → Filled found text out → drop (length text) out ≡ drop (length text) found
  filled-rest {found} {text} f = ap (drop (length text)) f.holds ∙ drop_at text (drop (length text) found) (length text) refl

  -- one element more, at the place i where the text ends
  pub filled-one : {found text out : List A} (i : ℕ) (x : A) → Filled found text out → length text ≡ i → i < length found
      → Filled found (text ++ (x ∷ [])) (set out i x)
  filled-one {found} {text} {out} i x f e h =
      let n : length (text ++ (x ∷ [])) ≡ suc i = length-append text (x ∷ []) ∙ omega arith in
      record {
        room = omega arith;
        holds =
            ap (λ (l : List A). set l i x) (f.holds ∙ ap (λ (k : ℕ). text ++ drop k found) e ∙ ap (λ (l : List A). text ++ l) (drop-cons found i x h))
            ∙ set_at text (get_or found i x) (drop (suc i) found) x i e
            ∙ ap (λ (k : ℕ). text ++ (x ∷ drop k found)) (sym n)
            ∙ sym (append_assoc text (x ∷ []) (drop (length (text ++ (x ∷ []))) found));
      }

  -- a run of elements more, from there
  pub filled-run : {found text out : List A} (i : ℕ) (more : List A) → Filled found text out → length text ≡ i → i + length more ≤ length found
      → Filled found (text ++ more) (sets out i more)
  filled-run {found} {text} {out} i more f e h =
      let n : length (text ++ more) ≡ i + length more = length-append text more ∙ omega arith in
      let l : length out ≡ length found = filled-length f in
      record {
        room = omega arith;
        holds =
            sets-eq more out i (omega arith)
            ∙ ap (λ (l : List A). (l ++ more) ++ drop (i + length more) out) (ap (λ (k : ℕ). take k out) (sym e) ∙ filled-text f)
            ∙ ap (λ (l : List A). (text ++ more) ++ l)
            (sym (drop-drop (length more) i out) ∙ ap (drop (length more)) (ap (λ (k : ℕ). drop k out) (sym e) ∙ filled-rest f ∙ ap (λ (k : ℕ). drop k found) e) ∙ drop-drop (length more) i found)
            ∙ ap (λ (k : ℕ). (text ++ more) ++ drop k found) (sym n);
      }
