-- The division of a text into the sequences of Table 3-7: there is at most one (`one-division`), and `code_points` counts its sequences
-- (`points-divide`). Assumes nothing.
use Rattle.std.specs.Prelude.{Option, Some, None}
use mathlib.Core.Path.{◌≡◌, refl, sym, ap, ◌∙◌}
use mathlib.Core.Bool.{Bool, true, false, false≢true}
use mathlib.Core.List.{List, [], ◌∷◌, ◌++◌}
use mathlib.Core.Logic.{◌↔◌}
use Prim.Native.Nat.{ℕ, suc}
use native.Mathlib.Omega.{arith}
use lib.ListN.{length}
use Rattle.lists.specs.Lists.{all_l, any_l}
use Rattle.lists.proofs.Bools.{and_both, and_intro, or_left, or_right, none-some, some_inj}
use Rattle.utf8.specs.Utf8.{Range, within, lines, line_of, fits_line, admitted, joined, Division, one_more, divided, code_points}
use Rattle.utf8.proofs.LeadBytes.{led}

-- ---- what an Option tells

-- a test that lets through what is some
pub passed : (t : Bool) (o : Option ℕ) (n : ℕ) → (elim t as (λ _. Option ℕ) [ true ↦ o | false ↦ None ]) ≡ Some n → (t ≡ true) × (o ≡ Some n)
passed true o n e = (refl, e)
passed false o n e = absurd (none-some e)

pub let_through : (t : Bool) (o : Option ℕ) → t ≡ true → (elim t as (λ _. Option ℕ) [ true ↦ o | false ↦ None ]) ≡ o
let_through true o e = refl
let_through false o e = absurd (false≢true e)

pub one_less : (o : Option ℕ) (n : ℕ) → one_more o ≡ Some n → (m : ℕ) × (o ≡ Some m) × (n ≡ suc m)
one_less None n e = absurd (none-some e)
one_less (Some m) n e = (m, refl, sym (some_inj e))

-- ---- from a division to the count

through : (due : List Range) (s text : List ℕ) → fits_line due s ≡ true → divided due (s ++ text) ≡ divided [] text
unfolding divided
through [] [] text h = refl
through [] (b ∷ s) text h = absurd (false≢true h)
through (r ∷ due) [] text h = absurd (false≢true h)
through (r ∷ due) (b ∷ s) text h =
    let both = and_both (within r b) (fits_line due s) h in
    let_through (within r b) (divided due (s ++ text)) both.0 ∙ through due s text both.1

pub begins : (b : ℕ) (text : List ℕ) (r : Range) (due : List Range) → line_of lines b ≡ r ∷ due → divided [] (b ∷ text) ≡ one_more (divided due text)
unfolding divided
begins b text r due e = rw (e, divided)

one-sequence : (s text : List ℕ) → admitted s ≡ true → divided [] (s ++ text) ≡ one_more (divided [] text)
one-sequence s text h =
    let l = led s h in
    ap {B = Option ℕ} (λ (x : List ℕ). divided [] (x ++ text)) l.is
    ∙ begins l.byte (l.rest ++ text) l.first l.due l.line
    ∙ ap {B = Option ℕ} one_more (through l.due l.rest text l.fits)

counts : (parts : List (List ℕ)) → all_l admitted parts ≡ true → divided [] (joined parts) ≡ Some (length parts)
unfolding divided
counts [] h = refl
counts (s ∷ parts) h =
    let both = and_both (admitted s) (all_l admitted parts) h in
    one-sequence s (joined parts) both.0 ∙ ap {B = Option ℕ} one_more (counts parts both.1)

-- ---- from the count to a division

-- the line of a lead byte admits the sequences that it begins
line-admits : (l : List (List Range)) (b : ℕ) (s : List ℕ) (r : Range) (due : List Range) → line_of l b ≡ r ∷ due → fits_line due s ≡ true
    → any_l (λ line. fits_line line (b ∷ s)) l ≡ true
line-admits [] b s r due e f = absurd (let y : ◌≡◌ {A = ℕ} 0 1 = cc in omega arith)
line-admits ([] ∷ l) b s r due e f = line-admits l b s r due e f
line-admits ((q ∷ qs) ∷ l) b s r due e f = go (within q b) refl e (λ k. line-admits l b s r due k f)
  where
    go : (t : Bool) → within q b ≡ t → (elim t as (λ _. List Range) [ true ↦ q ∷ qs | false ↦ line_of l b ]) ≡ r ∷ due
        → (line_of l b ≡ r ∷ due → any_l (λ line. fits_line line (b ∷ s)) l ≡ true) → any_l (λ line. fits_line line (b ∷ s)) ((q ∷ qs) ∷ l) ≡ true
    go true t e later = let same : qs ≡ due = cc in or_left _ _ (and_intro _ _ t (rw same f))
    go false t e later = or_right (fits_line (q ∷ qs) (b ∷ s)) _ (later e)

-- a text of which the bytes due are first, and then n sequences
record Split (due : List Range) (text : List ℕ) (n : ℕ) : Type 0 where
  first : List ℕ
  parts : List (List ℕ)
  whole : text ≡ first ++ joined parts
  fits : fits_line due first ≡ true
  each : all_l admitted parts ≡ true
  number : length parts ≡ n

begun : (l : List Range) (b : ℕ) (text : List ℕ) (n : ℕ) → line_of lines b ≡ l
    → (elim l as (λ _. Option ℕ) [ [] ↦ None | q ∷ due ↦ one_more (divided due text) ]) ≡ Some n
    → ((due : List Range) (m : ℕ) → divided due text ≡ Some m → Split due text m) → Split [] (b ∷ text) n
unfolding admitted
begun [] b text n e h later = absurd (none-some h)
begun (r ∷ due) b text n e h later =
    let (m, f, g) = one_less (divided due text) n h in
    let d = later due m f in
    record {
      first = [];
      parts = (b ∷ d.first) ∷ d.parts;
      whole = ap {B = List ℕ} (λ (x : List ℕ). b ∷ x) d.whole;
      fits = refl;
      each = and_intro _ _ (line-admits lines b d.first r due e d.fits) d.each;
      number = ap suc d.number ∙ sym g;
    }

split : (due : List Range) (text : List ℕ) (n : ℕ) → divided due text ≡ Some n → Split due text n
unfolding divided
split [] [] n e = record { first = []; parts = []; whole = refl; fits = refl; each = refl; number = some_inj e }
split (r ∷ due) [] n e = absurd (none-some e)
split (r ∷ due) (b ∷ text) n e =
    let (t, f) = passed (within r b) (divided due text) n e in
    let d = split due text n f in
    record {
      first = b ∷ d.first;
      parts = d.parts;
      whole = ap {B = List ℕ} (λ (x : List ℕ). b ∷ x) d.whole;
      fits = and_intro _ _ t d.fits;
      each = d.each;
      number = d.number;
    }
split [] (b ∷ text) n e = begun (line_of lines b) b text n refl e (λ due m h. split due text m h)

no_bytes : (s : List ℕ) → fits_line [] s ≡ true → s ≡ []
no_bytes [] f = refl
no_bytes (b ∷ s) f = absurd (false≢true f)

-- the count of code points is the number of sequences of a division
pub points-divide : (text : List ℕ) (n : ℕ) → (code_points text ≡ Some n) ↔ ((parts : List (List ℕ)) × Division text parts × (length parts ≡ n))
unfolding code_points
points-divide text n = (there, back)
  where
    there : divided [] text ≡ Some n → (parts : List (List ℕ)) × Division text parts × (length parts ≡ n)
    there e =
        let d = split [] text n e in
        (d.parts, record { whole = sym (d.whole ∙ ap {B = List ℕ} (λ (x : List ℕ). x ++ joined d.parts) (no_bytes d.first d.fits)); each = d.each }, d.number)

    back : (parts : List (List ℕ)) × Division text parts × (length parts ≡ n) → divided [] text ≡ Some n
    back f =
        let (parts, d, e) = f in
        ap {B = Option ℕ} (divided []) (sym d.whole) ∙ counts parts d.each ∙ ap {B = Option ℕ} Some e

-- ---- there is one division

same_start : (due : List Range) (s t x y : List ℕ) → fits_line due s ≡ true → fits_line due t ≡ true → s ++ x ≡ t ++ y → (s ≡ t) × (x ≡ y)
same_start [] [] [] x y f g e = (refl, e)
same_start [] (b ∷ s) t x y f g e = absurd (false≢true f)
same_start [] [] (b ∷ t) x y f g e = absurd (false≢true g)
same_start (r ∷ due) [] t x y f g e = absurd (false≢true f)
same_start (r ∷ due) (b ∷ s) [] x y f g e = absurd (false≢true g)
same_start (r ∷ due) (b ∷ s) (d ∷ t) x y f g e =
    let h : b ≡ d = cc in
    let k : s ++ x ≡ t ++ y = cc in
    let (p, q) = same_start due s t x y (and_both (within r b) (fits_line due s) f).1 (and_both (within r d) (fits_line due t) g).1 k in
    ((cc), q)

same_parts : (a b : List (List ℕ)) → all_l admitted a ≡ true → all_l admitted b ≡ true → joined a ≡ joined b → a ≡ b
same_parts [] [] f g e = refl
same_parts [] (t ∷ b) f g e =
    let l = led t (and_both (admitted t) (all_l admitted b) g).0 in
    let z : [] ≡ l.byte ∷ (l.rest ++ joined b) = e ∙ ap {B = List ℕ} (λ (x : List ℕ). x ++ joined b) l.is in
    absurd (let y : ◌≡◌ {A = ℕ} 0 1 = cc in omega arith)
same_parts (s ∷ a) [] f g e =
    let l = led s (and_both (admitted s) (all_l admitted a) f).0 in
    let z : [] ≡ l.byte ∷ (l.rest ++ joined a) = sym e ∙ ap {B = List ℕ} (λ (x : List ℕ). x ++ joined a) l.is in
    absurd (let y : ◌≡◌ {A = ℕ} 0 1 = cc in omega arith)
same_parts (s ∷ a) (t ∷ b) f g e =
    let fs = and_both (admitted s) (all_l admitted a) f in
    let gs = and_both (admitted t) (all_l admitted b) g in
    let l = led s fs.0 in
    let k = led t gs.0 in
    let z : l.byte ∷ (l.rest ++ joined a) ≡ k.byte ∷ (k.rest ++ joined b) =
    sym (ap {B = List ℕ} (λ (x : List ℕ). x ++ joined a) l.is) ∙ e ∙ ap {B = List ℕ} (λ (x : List ℕ). x ++ joined b) k.is in
    let byte : l.byte ≡ k.byte = cc in
    let line : l.first ∷ l.due ≡ k.first ∷ k.due = sym l.line ∙ ap (line_of lines) byte ∙ k.line in
    let due : l.due ≡ k.due = cc in
    let rest : l.rest ++ joined a ≡ k.rest ++ joined b = cc in
    let (p, q) = same_start k.due l.rest k.rest (joined a) (joined b) (rw due at l.fits) k.fits rest in
    let first : s ≡ t = l.is ∙ ap {B = List ℕ} (λ (x : ℕ). x ∷ l.rest) byte ∙ ap {B = List ℕ} (λ (x : List ℕ). k.byte ∷ x) p ∙ sym k.is in
    let others : a ≡ b = same_parts a b fs.1 gs.1 q in
    ap {B = List (List ℕ)} (λ (x : List ℕ). x ∷ a) first ∙ ap {B = List (List ℕ)} (λ (x : List (List ℕ)). t ∷ x) others

pub one-division : {text : List ℕ} {a b : List (List ℕ)} → Division text a → Division text b → a ≡ b
one-division {a = a} {b = b} d e = same_parts a b d.each e.each (d.whole ∙ sym e.whole)
