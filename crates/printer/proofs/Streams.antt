-- A call that moved bytes, as its step says: a read took them from the front of what the reader had, a write put them behind what the writer holds. Assumes
-- nothing.
use Rattle.std.proofs.Common.{◌≡◌, ℕ, ◌+◌, ◌-◌, ◌≤◌, ◌<◌, List, [], ◌++◌, arith, length, take, drop, sym, ap, ◌∙◌, subst, le_refl, drop_at, length-take-le, take_all, append-nil, refl, Bool, true, false, Option, None, Some, IfSome, Result, Ok, Err}
use borrow.Author.Tests.{leb-true, leb-false}
use lib.Dec.{leb}
use Rattle.std.proofs.lemmas.List.{take_rest}
use Rattle.std.proofs.lemmas.Slice.{take-put_mid_below}
use Rattle.std.specs.declared.io.Error.{Error}
use Rattle.std.specs.Io.{ReadsAtMost, WritesAtMost}
use Rattle.std.specs.Io.KnownBytes.{Consumes, Appends, ReadConsumes, WriteAppends}
use Rattle.std.proofs.KnownBytes.{Consumes-nil, Consumes-kept, Consumes-trans, Appends-nil, Appends-kept, Appends-trans}
use borrow.Rule.Slice.PartMut.{put_mid, post_of}
use lib.Seq.{take-add, take-append-le}
use Rattle.printer.specs.Streams.{Says, Took}

module _ (a b c : Option (List ℕ)) where
  read_step : (got : Result ℕ Error) (bs : List ℕ) (most n : ℕ) → length bs ≤ most → ReadsAtMost got bs → ReadConsumes b c got bs → Says most got (Ok (Some n))
      → Consumes b c (take n bs)
  read_step (Ok m) bs most n room within took says = let same : m ≡ n = omega (arith, within, says.0) in subst (λ k. Consumes b c (take k bs)) same took.0
  read_step (Err e) bs most n room within took says = subst (λ k. Consumes b c (take k bs)) (sym says.0) (Consumes-kept b b c [] (Consumes-nil b) took)

  write_step : (got : Result ℕ Error) (bs : List ℕ) (n : ℕ) → WritesAtMost got bs → WriteAppends b c got bs → Says (length bs) got (Ok (Some n))
      → Appends b c (take n bs)
  write_step (Ok m) bs n within put says = let same : m ≡ n = omega (arith, within, says.0) in subst (λ k. Appends b c (take k bs)) same put
  write_step (Err e) bs n within put says = subst (λ k. Appends b c (take k bs)) (sym says.0) (Appends-kept b b c [] (Appends-nil b) put)

  -- a part of a buffer is read over from place i on
  pub reads_on : (got : Result ℕ Error) (xs bs : List ℕ) (i most n : ℕ) → i ≤ length xs → i + n ≤ length xs → length bs ≡ length xs - i → length bs ≤ most
      → ReadsAtMost got bs → ReadConsumes b c got bs → Says most got (Ok (Some n)) → Consumes a b (take i xs)
      → Consumes a c (take (i + n) (put_mid i (length xs - i) xs bs))
  reads_on got xs bs i most n start end part room within took says before =
      let step = read_step got bs most n room within took says in
      let front : take i (put_mid i (length xs - i) xs bs) ≡ take i xs = take-put_mid_below _ _ _ _ _ (le_refl _) start in
      let mid : take n (drop i (put_mid i (length xs - i) xs bs)) ≡ take n bs =
      ap (take n) (drop_at (take i xs) (bs ++ post_of i (length xs - i) xs) i (length-take-le i xs start)) ∙ take-append-le n bs _ (omega arith) in
      subst (Consumes a c) (sym (take-add i n _ ∙ ap (λ l. l ++ take n (drop i (put_mid i (length xs - i) xs bs))) front ∙ ap (λ l. take i xs ++ l) mid))
      (Consumes-trans a b c (take i xs) (take n bs) before step)

  -- a part of a text is written from place i on
  pub writes_on : (got : Result ℕ Error) (text : List ℕ) (i n : ℕ) → WritesAtMost got (take (length text - i) (drop i text))
      → WriteAppends b c got (take (length text - i) (drop i text)) → Says (length (take (length text - i) (drop i text))) got (Ok (Some n))
      → i + n ≤ length text → Appends a b (take i text) → Appends a c (take (i + n) text)
  writes_on got text i n within put says end before =
      let step = write_step got _ n within put says in
      let part : take n (take (length text - i) (drop i text)) ≡ take n (drop i text) = ap (take n) (take_rest text i) in
      subst (Appends a c) (sym (take-add i n text)) (Appends-trans a b c (take i text) (take n (drop i text)) before (subst (Appends b c) part step))

-- the front of what was read, where all was read or there was no more room
front : (most : ℕ) (bs ys : List ℕ) → length bs ≤ most → (length bs < most → ys ≡ []) → bs ≡ take most (bs ++ ys)
front most bs ys fits whole = by_room (leb most (length bs)) refl
  where
    by_room : (b : Bool) → leb most (length bs) ≡ b → bs ≡ take most (bs ++ ys)
    by_room true e =
        let full : most ≤ length bs = leb-true most (length bs) e in
        sym (take-append-le most bs ys full ∙ take_all most bs fits)
    by_room false e =
        let none = whole (omega (arith, leb-false most (length bs) e)) in
        sym (ap (λ l. take most (bs ++ l)) none ∙ ap (take most) (append-nil bs) ∙ take_all most bs fits)

-- what was read into a room of 65,537 bytes is the image that the input is
pub image_read : (old new : Option (List ℕ)) (most n : ℕ) (buf : List ℕ) → length buf ≡ most → n ≤ most → Took old new (Some n) buf
    → IfSome old (λ xs. take n buf ≡ take most xs)
image_read None new most n buf room fits took = tt
image_read (Some xs) None most n buf room fits took = absurd took.0
image_read (Some xs) (Some ys) most n buf room fits took =
    let size : length (take n buf) ≡ n = length-take-le n buf (omega arith) in
    front most (take n buf) ys (omega arith) (λ h. took.1 (omega arith)) ∙ ap (take most) (sym took.0)

-- what is written of what was read is what is to be written of the image that the input is
pub read_written : (old a b : Option (List ℕ)) (text : List ℕ → List ℕ) (most : ℕ) (image : List ℕ) → IfSome old (λ xs. image ≡ take most xs)
    → Appends a b (text image) → IfSome old (λ xs. Appends a b (text (take most xs)))
read_written None a b text most image same put = tt
read_written (Some xs) a b text most image same put = subst (λ l. Appends a b (text l)) same put
