use Rattle.std.proofs.Common.{◌≡◌, take, string_bytes}
use Rattle.json_paths.specs.Places.{pointer_text}
use Rattle.json_paths.proofs.path.pointer_of.Given as goal

-- the text is that of the steps so far
abbrev pub invariant-loop-step : goal.invariant-loop-step
invariant-loop-step l = string_bytes l.text ≡ pointer_text (take l.step-index l.path)
