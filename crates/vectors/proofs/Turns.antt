-- A turn of a replay: what is reached from the walk behind it is reached from the one before. Assumes nothing.
use Rattle.std.proofs.Common.{◌≡◌, ℕ, ◌<◌, Bool, List, length, subst}
use Rattle.vectors.specs.Cases.{case_at}
use Rattle.vectors.specs.Walk.{host_of, noted}
use Rattle.vectors.specs.Replays.{Replayed, Verdict}
use Rattle.vectors.specs.Replays.Replayed.{turned}
use Rattle.vectors.specs.declared.walk.Walk.{Walk}
use Rattle.vectors.specs.declared.replay.Turn.{Turn}

module _ {list : List ℕ} {Gives : Turn → Bool → Type 0} {w next end : Walk} where
  pub turned_to : (same : Bool) → w.at < length list → Verdict Gives (host_of list w) (case_at list w.at) w.cases same
      → next ≡ noted list w same → Replayed list Gives next end → Replayed list Gives w end
  turned_to same more verdict e reaches = turned more verdict (subst (λ (x : Walk). Replayed list Gives x end) e reaches)
