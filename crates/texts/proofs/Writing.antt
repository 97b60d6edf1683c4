-- A text written after another is both, written in a row; there is a number for the place after it. Assumes nothing.
use mathlib.Core.Path.{◌≡◌, refl, sym, ap, subst, ◌∙◌}
use mathlib.Core.List.{List, [], ◌++◌, append_assoc, append-nil}
use Prim.Native.Nat.{ℕ, ◌+◌, ◌≤◌, ◌<◌, ◌^◌}
use native.Mathlib.Nat.{add-zero}
use native.Mathlib.Omega.{arith}
use native.Mathlib.Numerals.{add-one}
use lib.ListN.{length, get_or, take, drop, length-append}
use lib.Seq.{sets, take-suc, length-take-le}
use Rattle.lists.proofs.Buffers.{sets-append, sets-front}
use Rattle.texts.specs.Text.{Wrote, Counts, one}

pub wrote_none : (found : List ℕ) (at : ℕ) → Wrote found at [] found at
wrote_none found at = record { buffer = refl; place = sym (add-zero at) }

pub wrote_then : {found text mid more out : List ℕ} {at next end : ℕ} → Wrote found at text mid next → Wrote mid next more out end
    → Wrote found at (text ++ more) out end
wrote_then {found} {text} {mid} {more} {out} {at} {next} {end} a b =
    let n = length-append text more in
    record {
      buffer = b.buffer ∙ ap (λ (l : List ℕ). sets l next more) a.buffer ∙ ap (λ (k : ℕ). sets (sets found at text) k more) a.place ∙ sym (sets-append found at text more);
      place = let p = a.place in let q = b.place in omega arith;
    }

-- the same text, said otherwise
pub wrote_as : {found text other out : List ℕ} {at next : ℕ} → text ≡ other → Wrote found at text out next → Wrote found at other out next
wrote_as {found} {text} {other} {out} {at} {next} e a = subst (λ (t : List ℕ). Wrote found at t out next) e a

-- from the front, where there is room: the text, and the rest unchanged
module _ (text : List ℕ) {found out : List ℕ} {next : ℕ} (a : Wrote found 0 text out next) where
  pub front-place : next ≡ length text
  front-place = let p = a.place in omega arith

  pub front-buffer : length text ≤ length found → out ≡ text ++ drop next found
  front-buffer h = a.buffer ∙ sets-front found text h ∙ ap (λ (k : ℕ). text ++ drop k found) (sym front-place)

-- of two texts in a row, the first; and, once that is written, the second
pub counts-first : (at : ℕ) (text more : List ℕ) → Counts at (text ++ more) → Counts at text
counts-first at text more h = let n = length-append text more in omega arith

pub counts-then : (at : ℕ) (text more : List ℕ) {found out : List ℕ} {next : ℕ} → Counts at (text ++ more) → Wrote found at text out next → Counts next more
counts-then at text more h a = let n = length-append text more in let p = a.place in omega arith

-- ---- a text written byte by byte

module _ (text : List ℕ) (i : ℕ) (h : i < length text) {found mid : List ℕ} {at next : ℕ} (a : Wrote found at (take i text) mid next) where
  pub counts-next : Counts at text → next + 1 < 2 ^ 64
  counts-next k = let n = length-take-le i text (omega arith) in let p = a.place in omega arith

  pub wrote-next : {out : List ℕ} {end : ℕ} → Wrote mid next (one (get_or text i 0)) out end → Wrote found at (take (i + 1) text) out end
  wrote-next b = wrote_as (sym (take-suc text i 0 h) ∙ ap (λ (k : ℕ). take k text) (sym (add-one i))) (wrote_then a b)

-- ---- a text that is written in parts: what is written, with what is to come, is the whole

pub record Underway (found : List ℕ) (at : ℕ) (total rest out : List ℕ) (next : ℕ) : Type 0 where
  pub text : List ℕ
  pub whole : text ++ rest ≡ total
  pub wrote : Wrote found at text out next

pub starts : (found : List ℕ) (at : ℕ) (total : List ℕ) → Underway found at total total found at
starts found at total = record { text = []; whole = refl; wrote = wrote_none found at }

module _ (part rest : List ℕ) {found total mid : List ℕ} {at next : ℕ} (u : Underway found at total (part ++ rest) mid next) where
  pub part-counts : Counts at total → Counts next part
  part-counts h = counts-first next part rest (counts-then at u.text (part ++ rest) (subst (Counts at) (sym u.whole) h) u.wrote)

  pub goes : {out : List ℕ} {end : ℕ} → Wrote mid next part out end → Underway found at total rest out end
  goes w = record { text = u.text ++ part; whole = append_assoc u.text part rest ∙ u.whole; wrote = wrote_then u.wrote w }

pub ends : {found total out : List ℕ} {at next : ℕ} → Underway found at total [] out next → Wrote found at total out next
ends u = wrote_as (sym (append-nil u.text) ∙ u.whole) u.wrote

-- what is to come, said otherwise
pub underway-as : {found total rest other out : List ℕ} {at next : ℕ} → rest ≡ other → Underway found at total rest out next → Underway found at total other out next
underway-as {found} {total} {rest} {other} {out} {at} {next} e u = subst (λ (r : List ℕ). Underway found at total r out next) e u
