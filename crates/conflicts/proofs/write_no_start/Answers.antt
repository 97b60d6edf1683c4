-- Two words from the front. Assumes nothing.
use mathlib.Core.List.{[], ◌∷◌, flat_map}
use Rattle.lists.proofs.Buffers.{sets-front}
use Rattle.conflicts.proofs.write_no_start.Goals as goal

pub returns : goal.returns
unfolding flat_map
returns c = sets-front c.args.errors.now (0 ∷ (0 ∷ [])) c.requires
