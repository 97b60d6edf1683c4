-- Runs of stores: one store more at a time, and what is still to be stored. A loop that writes a part of a buffer from a place on shows one of
-- the two. Assumes nothing.
use mathlib.Core.Path.{◌≡◌, refl, sym, ap, ◌∙◌}
use mathlib.Core.List.{List, [], ◌∷◌, ◌++◌}
use Prim.Native.Nat.{ℕ, ◌+◌, ◌≤◌, ◌<◌}
use native.Mathlib.Numerals.{add-one}
use native.Mathlib.Omega.{arith}
use lib.ListN.{length, get_or, set, take, length-set, length-append}
use lib.Seq.{sets, length-sets, take-suc, length-take-le}
use Rattle.lists.proofs.Buffers.{sets-append}

-- ---- one store more

module _ {A : Type 0} (o : List A) (at : ℕ) where
  pub sets-one : (t : List A) (x : A) (i : ℕ) → at + length t ≡ i → sets o at (t ++ (x ∷ [])) ≡ set (sets o at t) i x
  sets-one t x i e = sets-append o at t (x ∷ []) ∙ ap (λ (k : ℕ). set (sets o at t) k x) e

  -- one more of a list
  pub sets-take : (t : List A) (k : ℕ) (d : A) (i : ℕ) → k < length t → at + k ≡ i → set (sets o at (take k t)) i (get_or t k d) ≡ sets o at (take (k + 1) t)
  sets-take t k d i h e =
      let l = length-take-le k t (omega arith) in
      let more : take (k + 1) t ≡ take k t ++ (get_or t k d ∷ []) = rw add-one (take-suc t k d h) in
      sym (sets-one (take k t) (get_or t k d) i (omega arith)) ∙ ap (sets o at) (sym more)

-- ---- a run under way: at its end the buffer is the found one with the whole run stored

module _ {A : Type 0} where
  -- of the run `all` into `found` from place `start`, `rest` is still to be stored, from place `at`
  pub record Underway (found : List A) (start : ℕ) (all out : List A) (at : ℕ) (rest : List A) : Type 0 where
    pub same : sets out at rest ≡ sets found start all
    pub place : at + length rest ≡ start + length all
    pub long : length out ≡ length found

  pub run-begun : (found : List A) (start : ℕ) (all : List A) → Underway found start all found start all
  run-begun found start all = record { same = refl; place = refl; long = refl }

  module _ {found : List A} {start : ℕ} {all out : List A} {at : ℕ} where
    pub run-one : {x : A} {rest : List A} → Underway found start all out at (x ∷ rest) → Underway found start all (set out at x) (at + 1) rest
    run-one {x} {rest} u =
        let p = u.place in
        record {
          same = ap (λ (k : ℕ). sets (set out at x) k rest) (add-one at) ∙ u.same;
          place = omega arith;
          long = length-set out at x ∙ u.long;
        }

    pub run_more : (a rest : List A) → Underway found start all out at (a ++ rest) → Underway found start all (sets out at a) (at + length a) rest
    run_more a rest u =
        let p = u.place in
        let l = length-append a rest in
        record {
          same = sym (sets-append out at a rest) ∙ u.same;
          place = omega arith;
          long = length-sets out at a ∙ u.long;
        }

    -- where the whole run has room, so has what is left
    pub run_room : {rest : List A} → start + length all ≤ length found → Underway found start all out at rest → at + length rest ≤ length out
    run_room h u = let p = u.place in let l = u.long in omega arith

    pub run-done : Underway found start all out at [] → out ≡ sets found start all
    run-done u = u.same
