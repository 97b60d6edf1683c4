-- Buffers, compared with what is written into their front. Definitions only.
use Rattle.std.specs.Prelude.{◌≡◌, Bool, true, List, ◌++◌, ℕ, ◌+◌, ◌-◌, ◌%◌, ◌≤◌, ◌==◌, length, take, drop}
use Rattle.std.specs.List.{list_all}
use Rattle.lists.specs.Lists.{tab}

-- every element from i on is that value
abbrev pub rest_is : List ℕ → ℕ → ℕ → Bool
rest_is a i value = list_all (λ x. x == value) (drop i a)

-- a test that answers whether something holds
abbrev pub Tells : Bool → Type 0 → Type 0
Tells r holds = (r ≡ true → holds) × (holds → r ≡ true)

-- a buffer begins with a text, and every byte behind it has that value
pub record Padded (now text : List ℕ) (value : ℕ) : Type 0 where
  pub room : length text ≤ length now
  pub same : take (length text) now ≡ text
  pub rest : rest_is now (length text) value ≡ true

-- a buffer is a text, and behind it what it was before; `before` may be longer
pub record Written (now text before : List ℕ) : Type 0 where
  pub room : length now ≤ length before
  pub same : now ≡ text ++ take (length now - length text) (drop (length text) before)

-- what a buffer is filled with before call i: a byte that no text has, another from place to place and from call to call
abbrev pub fill_at : ℕ → ℕ → ℕ
fill_at i k = 128 + (i % 128 + k % 128) % 128

unfoldable pub filled : ℕ → List ℕ
filled i = tab 0 65536 (fill_at i)
