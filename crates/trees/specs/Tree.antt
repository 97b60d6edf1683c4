-- A pattern tree (docs/RULES.md, "Pattern trees"): its records, the tree that they stand for, and refusal 10. Definitions only. They are total: of
-- records that are refused, the tree means nothing.
use Rattle.std.specs.Prelude.{Bool, true, false, not, ◌&&◌, ◌||◌, List, [], ◌∷◌, ℕ, zero, suc, ◌+◌, ◌*◌, ◌-◌, ◌/◌, ◌%◌, eqb, leb, ltb, length, get_or, take, drop}
use Rattle.lists.specs.Lists.{tab, all_l, those}
use Rattle.trees.specs.declared.tree.Record.{Record}
use Rattle.trees.specs.declared.kind.Rule.{Rule}
use Rattle.trees.specs.declared.kind.Children.{Children}
use Rattle.trees.specs.declared.kind.Children.TheVariants.{No, One, Any}

-- ---- the words: six a record. Records are numbered from 1; the number 0 names none

abbrev pub count : List ℕ → ℕ
count w = length w / 6

-- record number i
unfoldable pub record_of : List ℕ → ℕ → Record
record_of w i =
    let p = drop (6 * (i - 1)) w in
    record { kind = get_or p 0 0; a = get_or p 1 0; b = get_or p 2 0; flags = get_or p 3 0; child = get_or p 4 0; next = get_or p 5 0 }

-- the numbers of all records
abbrev pub numbers : List ℕ → List ℕ
numbers w = tab 1 (count w) (λ i. i)

-- ---- the tree

mutual
  pub data Tree : Type 0 where
    empty : Tree
    literal : List ℕ → Tree
    class : Bool → Tree  -- whether it is one of the six of `DOT_HIRS`
    look : Tree
    repetition : (min : ℕ) (greedy unbounded : Bool) → Tree → Tree
    capture : Tree → Tree
    concat : Chain → Tree
    alternation : Chain → Tree

  pub data Chain : Type 0 where
    done : Chain
    part : Tree → Chain → Chain

abbrev pub first_of : Chain → Tree
first_of done = empty
first_of (part t c) = t

-- flag f, 1 or 2
abbrev pub flag : ℕ → ℕ → Bool
flag f flags = eqb (flags / f % 2) 1

-- the trees that a record with these children may stand for, in the order of the kinds
abbrev pub shapes : List ℕ → Record → Chain → List Tree
shapes bytes r children =
    empty ∷
    literal (take r.b (drop r.a bytes)) ∷
    class (flag 1 r.flags) ∷
    look ∷
    repetition r.a (flag 1 r.flags) (flag 2 r.flags) (first_of children) ∷
    capture (first_of children) ∷
    concat children ∷
    alternation children ∷ []

unfoldable pub tree_of : List ℕ → Record → Chain → Tree
tree_of bytes r children = get_or (shapes bytes r children) r.kind empty

-- the chain that begins at record i. An index is below its holder's number, so that k = i is deep enough.
unfoldable pub chain_from : List ℕ → List ℕ → ℕ → ℕ → Chain
chain_from w bytes zero i = done
chain_from w bytes (suc k) i =
    let r = record_of w i in
    elim (eqb i 0) [ true ↦ done | false ↦ part (tree_of bytes r (chain_from w bytes k r.child)) (chain_from w bytes k r.next) ]

unfoldable pub chain_at : List ℕ → List ℕ → ℕ → Chain
chain_at w bytes i = chain_from w bytes i i

-- the tree of record i
unfoldable pub tree_at : List ℕ → List ℕ → ℕ → Tree
tree_at w bytes i = let r = record_of w i in tree_of bytes r (chain_at w bytes r.child)

-- "the last being the root"
unfoldable pub root : List ℕ → List ℕ → Tree
root w bytes = tree_at w bytes (count w)

-- ---- refusal 10: the rules, a sentence each

-- what a record of a kind may hold: in a, in b, the greatest flags, and how many children (`Rule` of src/kind.rt)
abbrev pub rule : Bool → Bool → ℕ → Children → Rule
rule a b flags children = record { a = a; b = b; flags = flags; children = children }

unfoldable pub rules : List Rule
rules =
    rule false false 0 No ∷  -- 0 empty
    rule true true 0 No ∷  -- 1 literal
    rule false false 1 No ∷  -- 2 class
    rule false false 0 No ∷  -- 3 look
    rule true false 3 One ∷  -- 4 repetition
    rule false false 0 One ∷  -- 5 capture
    rule false false 0 Any ∷  -- 6 concat
    rule false false 0 Any ∷ []  -- 7 alternation

unfoldable pub rule_of : ℕ → Rule
rule_of kind = get_or rules kind (rule false false 0 No)

-- "Every other field or flag is 0."
unfoldable pub fields_fit : Record → Bool
fields_fit r =
    ltb r.kind 8
    && ((rule_of r.kind).a || eqb r.a 0)
    && ((rule_of r.kind).b || eqb r.b 0)
    && leb r.flags (rule_of r.kind).flags

-- "Indices are below the holder's number"
abbrev pub indices_fit : ℕ → Record → Bool
indices_fit i r = ltb r.child i && ltb r.next i

-- "Repetition and capture have one child, kinds 0 to 3 none."
abbrev pub children_fit : List ℕ → Children → ℕ → Bool
children_fit w No child = eqb child 0
children_fit w One child = ltb 0 child && eqb (record_of w child).next 0
children_fit w Any child = true

-- "a literal passes its bytes"
abbrev pub literal_fits : ℕ → Record → Bool
literal_fits size r = not (eqb r.kind 1) || leb (r.a + r.b) size

-- record i, over this many bytes
unfoldable pub record_fits : List ℕ → ℕ → ℕ → Bool
record_fits w size i =
    let r = record_of w i in
    fields_fit r && indices_fit i r && children_fit w (rule_of r.kind).children r.child && literal_fits size r

-- how often number i is named: by the records whose first child it is, and by those whose next it is
unfoldable pub named : List ℕ → ℕ → ℕ
named w i =
    length (those (λ j. eqb (record_of w j).child i) (numbers w)) + length (those (λ j. eqb (record_of w j).next i) (numbers w))

unfoldable pub tree_fits : List ℕ → List ℕ → Bool
tree_fits w bytes =
    eqb (length w % 6) 0  -- "a part record"
    && leb 1 (count w)  -- "0 or over 1,024 records"
    && leb (count w) 1024
    && all_l (record_fits w (length bytes)) (numbers w)
    && all_l (λ i. leb (named w i) 1) (numbers w)  -- "no record is named twice"
    && eqb (record_of w (count w)).next 0  -- "the root has next 0"
    && all_l (λ i. eqb i (count w) || leb 1 (named w i)) (numbers w)  -- "every other record is named"
