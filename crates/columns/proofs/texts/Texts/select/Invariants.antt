use Rattle.std.proofs.Common.{◌≡◌, None, take}
use Rattle.columns.specs.Present.{gather}
use Rattle.columns.proofs.texts.Texts.select.Given as goal

abbrev pub invariant-loop-place : goal.invariant-loop-place
invariant-loop-place l = l.chosen ≡ gather l.self None (take l.place-index l.places)
