-- Three words an error; refused by 9, or both buffers written. Assumes nothing.
use Rattle.std.proofs.Common.{◌≡◌, ℕ, ◌*◌, List, length, get_or, map, sym, ap, ◌∙◌, arith}
use mathlib.Core.List.{flat_map}
use lib.ListN.{length-map}
use Rattle.graph_rules.specs.Table.{table_of}
use Rattle.graph_rules.specs.Build.{Built, empty_match, error_words, empty_leaves, no_states}
use Rattle.graph.specs.New.{conflicts}
use Rattle.conflicts.proofs.Listing.{empty-words}
use Rattle.graph.proofs.Written.{short, enough, few-empty}
use Rattle.graph.proofs.new.with_empty.Goals as goal

-- the build of a table whose leaves can match empty text
abbrev built : List ℕ → Built
built w = no_states (map empty_match (empty_leaves (table_of w)))

-- its errors take three words each
words_are : (w : List ℕ) (count : ℕ) → count ≡ length (empty_leaves (table_of w)) → length (conflicts (built w)) ≡ 3 * count
unfolding conflicts
words_are w count e = empty-words (empty_leaves (table_of w)) ∙ ap (λ (k : ℕ). 3 * k) (sym e)

pub overflow_mul-words : goal.overflow_mul-words
overflow_mul-words c =
    let h = few-empty c.args.table.words.now c.args.table.legal in
    let e = c.requires.count_value in
    omega arith

pub returns-then-errors-words : goal.returns-then-errors-words
returns-then-errors-words c =
    let w = c.args.table.words.now in
    let e = words_are w c.args.count c.requires.count_value in
    short (get_or w 0 0) (built w) c.args.graph.now c.args.errors.now (omega arith)

pub write_empty-requires : goal.write_empty-requires
unfolding conflicts
write_empty-requires c =
    let w = c.args.table.words.now in
    let e : length (flat_map error_words (map empty_match (empty_leaves (table_of w)))) ≡ 3 * c.args.count = words_are w c.args.count c.requires.count_value in
    omega arith

pub returns : goal.returns
returns c =
    let w = c.args.table.words.now in
    let e = words_are w c.args.count c.requires.count_value in
    let n : c.args.count ≡ length (map empty_match (empty_leaves (table_of w))) = c.requires.count_value ∙ sym (length-map (empty_leaves (table_of w)) empty_match) in
    enough (get_or w 0 0) (built w) c.args.graph.now c.args.errors.now (omega arith) _ _ _ c.no_states.ensures c.write_empty.ensures
    (λ i. record { states = 0; root = 0; errors = n i; words = sym e i })
