-- What the code's types stand for. Definitions only.
use Rattle.std.specs.Prelude.{◌≡◌, List, ℕ, ◌≤◌, ◌<◌, Result, Ok, Err}
use Rattle.refusals.specs.declared.Refusal.{Refusal}
use Rattle.refusals.specs.declared.Refusal.TheVariants.{TreeForm}
use Rattle.trees.specs.Layout.{empty_kind, literal_kind, class_kind, look_kind, repetition_kind, capture_kind, concat_kind, alternation_kind, kind_count}
use Rattle.trees.specs.Tree.{count, record_of}
use Rattle.trees.specs.declared.kind.Kind.{Kind}
use Rattle.trees.specs.declared.kind.Kind.TheVariants.{Empty, Literal, Class, Look, Repetition, Capture, Concat, Alternation}

abbrev pub kind_number : Kind → ℕ
kind_number Empty = empty_kind
kind_number Literal = literal_kind
kind_number Class = class_kind
kind_number Look = look_kind
kind_number Repetition = repetition_kind
kind_number Capture = capture_kind
kind_number Concat = concat_kind
kind_number Alternation = alternation_kind

-- a word is decoded to the kind that has this number, and refused where none has it
abbrev pub Decodes : ℕ → Result Kind Refusal → Type 0
Decodes number (Ok kind) = number ≡ kind_number kind
Decodes number (Err refusal) = (kind_count ≤ number) × (refusal ≡ TreeForm)

-- there are at most 1,024 records, and each names lower ones
pub record Numbered (w : List ℕ) : Type 0 where
  pub most : count w ≤ 1024
  pub child : (i : ℕ) → 0 < i → i ≤ count w → (record_of w i).child < i
  pub next : (i : ℕ) → 0 < i → i ≤ count w → (record_of w i).next < i
