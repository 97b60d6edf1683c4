-- The mask store (docs/RULES.md, "Masks"), its growth, refusal 15, and the eight tables. Definitions only.
use Rattle.std.specs.Prelude.{Bool, true, false, cond, ◌&&◌, not, Result, Ok, Err, List, [], ◌∷◌, ◌++◌, map, ℕ, suc, ◌+◌, ◌-◌, ◌%◌, ◌^◌, min, leb, ltb, length, get_or, take, drop}
use Rattle.std.specs.Bool.{beq}
use Rattle.lists.specs.Lists.{tab, eq_list}
use Rattle.lists.specs.Report.{Report}
use Rattle.refusals.specs.declared.Refusal.{Refusal}
use Rattle.refusals.specs.declared.Refusal.TheVariants.{Store}
use Rattle.refusals.specs.Refusals.{report}
use Rattle.bits.specs.Bits.{is_set, with_bit}
use Rattle.classes.specs.Classes.{Class}
use Rattle.mask_store.specs.declared.MaskStore.{MaskStore}
use Rattle.mask_store.specs.declared.Added.{Added}
use Rattle.mask_store.specs.Layout.{table_count, table_size, table_masks, most_masks, mask_table, mask_bit, mask_of, table_place, entry_place}

-- ---- "mask i is bit i mod 8 of table i / 8"

-- table t
unfoldable pub table_at : List ℕ → ℕ → List ℕ
table_at tables t = take table_size (drop (table_place t) tables)

-- mask i has byte b
unfoldable pub mask_has : List ℕ → ℕ → ℕ → Bool
mask_has tables i b = is_set (mask_bit i) (get_or tables (entry_place (mask_table i) b) 0)

-- mask i as a class: its 256 flags
unfoldable pub class_at : List ℕ → ℕ → Class
class_at tables i = map (is_set (mask_bit i)) (table_at tables (mask_table i))

-- a store of these tables and this count
abbrev pub store_of : List ℕ → ℕ → MaskStore
store_of tables count = record { tables = tables; count = count }

-- the classes that a store holds, in the order of their numbers
unfoldable pub held : MaskStore → List Class
held s = tab 0 s.count (class_at s.tables)

-- ---- lists of classes

abbrev pub same_class : Class → Class → Bool
same_class = eq_list beq

-- the number of a class: that of the first that equals it; the next free one if none does
abbrev pub number_of : List Class → Class → ℕ
number_of [] c = 0
number_of (d ∷ l) c = elim (same_class c d) [ true ↦ 0 | false ↦ suc (number_of l c) ]

abbrev pub among : List Class → Class → Bool
among l c = ltb (number_of l c) (length l)

abbrev pub none_twice : List Class → Bool
none_twice [] = true
none_twice (c ∷ l) = not (among l c) && none_twice l

-- "each once, numbered as first met": an equal class keeps its number, a new one takes the next
abbrev pub met : List Class → List Class → List Class
met l [] = l
met l (c ∷ cs) = met (cond (among l c) l (l ++ c ∷ [])) cs

-- ---- adding classes to a store (`add_test_to_lut`)

abbrev pub with_bits : ℕ → List ℕ → List Bool → List ℕ
with_bits k [] c = []
with_bits k (w ∷ ws) [] = w ∷ ws
with_bits k (w ∷ ws) (flag ∷ c) = with_bit k w flag ∷ with_bits k ws c

-- the tables with class c as mask i: bit i mod 8 of the 256 bytes of table i / 8 is written, 0 or 1
unfoldable pub written : List ℕ → ℕ → Class → List ℕ
written tables i c =
    take (table_place (mask_table i)) tables
    ++ (with_bits (mask_bit i) (table_at tables (mask_table i)) c ++ drop (table_place (mask_table i) + table_size) tables)

-- these classes as masks i, i + 1, ..
abbrev pub written_all : List ℕ → ℕ → List Class → List ℕ
written_all tables i [] = tables
written_all tables i (c ∷ cs) = written_all (written tables i c) (suc i) cs

-- the classes that a store holds once it is given these
unfoldable pub held_with : MaskStore → List Class → List Class
held_with s cs = met (held s) cs

-- and the store that then holds them
unfoldable pub grown : MaskStore → List Class → MaskStore
grown s cs =
    let all = held_with s cs in
    record { tables = written_all s.tables s.count (drop s.count all); count = length all }

-- ---- refusal 15: "mask store counts over 64 or repeats a class, or with the classes needed that it lacks would pass 64"

unfoldable pub allowed : MaskStore → Bool
allowed s = leb s.count most_masks && none_twice (held s)

unfoldable pub takes : MaskStore → List Class → Bool
takes s cs = allowed s && leb (length (held_with s cs)) most_masks

-- the call: one class. Its number and the grown store; or 15, and the store unchanged.

abbrev pub refused_with : MaskStore → Added
refused_with s = record { answer = Err Store; store = s }

unfoldable pub add : MaskStore → Class → Added
add s c = cond (takes s (c ∷ [])) (record { answer = Ok (number_of (held s) c); store = grown s (c ∷ []) }) (refused_with s)

-- its answer in numbers
abbrev pub add_report : Result ℕ Refusal → Report
add_report = report (λ i. i ∷ []) 1

-- ---- "`render_luts` gives the eight tables of 256 bytes, unused bits 0": the masks of table t that are in use are its lowest bits

abbrev pub used_in : ℕ → ℕ → ℕ
used_in count t = min table_masks (count - mask_of t 0)

unfoldable pub luts : MaskStore → List (List ℕ)
luts s = tab 0 table_count (λ t. map (λ w. w % 2 ^ used_in s.count t) (table_at s.tables t))

-- the call: the tables; or 15

abbrev pub Rendered : Type 0
Rendered = Result (List (List ℕ)) Refusal

unfoldable pub render : MaskStore → Rendered
render s = cond (allowed s) (Ok (luts s)) (Err Store)
