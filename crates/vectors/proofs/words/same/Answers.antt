-- `words::same` meets its contract. Assumes nothing.
use Rattle.std.proofs.lemmas.Slice.Eq.{slice_eq-Decides}
use Rattle.vectors.proofs.words.same.Goals as goal

pub returns : goal.returns
returns g c = λ decides. slice_eq-Decides decides _ _ _ c.eq.ensures
