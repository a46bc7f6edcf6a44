-- Notes and counts, put behind one another.
use Rattle.std.proofs.Common.{◌≡◌, ℕ, suc, ◌+◌, ◌<◌, ◌≤◌, List, [], ◌∷◌, ◌++◌, Option, Some, None, length, map, ap, sym, ◌∙◌, arith, append_assoc}
use Rattle.std.specs.Prelude.{flat_map}
use Rattle.std.specs.Option.{option_to_list}
use Rattle.std.proofs.lemmas.List.{length-append}
use Rattle.dyn_filter.specs.Filters.{FilterState}
use Rattle.driver_loop.specs.declared.stage.Stage.{Stage}
use Rattle.driver_loop.specs.declared.stage.Stage.TheVariants.{Filter, Limit, Sort, TopN, Single, Partial, Final, Probe, Dynamic}
use Rattle.driver_loop.specs.Turns.{filter_note_of_stage, filter_of_stage, look_note, note_of_stage, passed_of_stage}

pub one_note : (s : Stage) → length (note_of_stage s) ≤ 1
one_note (Filter op) = omega arith
one_note (Limit op types) = omega arith
one_note (Sort op) = omega arith
one_note (TopN op) = omega arith
one_note (Single op) = omega arith
one_note (Partial op) = omega arith
one_note (Final op) = omega arith
one_note (Probe op types) = omega arith
one_note (Dynamic op types) = omega arith

one_or_none : {X Y : Type 0} (f : X → Y) (x : Option X) → length (map f (option_to_list x)) ≤ 1
one_or_none f None = omega arith
one_or_none f (Some x) = omega arith

pub one_filter_note : (s : Stage) → length (filter_note_of_stage s) ≤ 1
one_filter_note s = one_or_none look_note (filter_of_stage s)

pub one_count : (s : Stage) → length (passed_of_stage s) ≤ 1
one_count s = one_or_none (λ (op : FilterState). op.passed) (filter_of_stage s)

-- stages have no more notes than they are
pub few_notes : {X : Type 0} (f : Stage → List X) → ((s : Stage) → length (f s) ≤ 1) → (ss : List Stage) → length (flat_map f ss) ≤ length ss
few_notes f one [] = omega arith
few_notes f one (s ∷ ss) = omega (arith, length-append (f s) (flat_map f ss), one s, few_notes f one ss)

module _ {X : Type 0} (f : Stage → List X) (one : (s : Stage) → length (f s) ≤ 1) (now new : List X) (stage : Stage) (left rest : List Stage) (cap more : ℕ)
    (split : left ≡ stage ∷ rest) (put : length now < cap → new ≡ now ++ f stage) (same : more ≡ cap) where
  pub put_less : length now + length left < cap → length new + length rest < more
  put_less room =
      let long : length left ≡ suc (length rest) = ap (λ (ss : List Stage). length ss) split in
      let is : length new ≡ length now + length (f stage) = ap (λ (xs : List X). length xs) (put (omega (arith, room))) ∙ length-append now (f stage) in
      omega (arith, room, long, is, one stage, same)

  pub put_room : length now + length left ≤ cap → length new + length rest ≤ more
  put_room room =
      let long : length left ≡ suc (length rest) = ap (λ (ss : List Stage). length ss) split in
      let is : length new ≡ length now + length (f stage) = ap (λ (xs : List X). length xs) (put (omega (arith, room, long))) ∙ length-append now (f stage) in
      omega (arith, room, long, is, one stage, same)

  pub put_items : (done : List X) → length now < cap → now ++ flat_map f left ≡ done → new ++ flat_map f rest ≡ done
  put_items done room before =
      ap (λ (xs : List X). xs ++ flat_map f rest) (put room) ∙ append_assoc now (f stage) (flat_map f rest) ∙ sym (ap (λ (ss : List Stage). now ++ flat_map f ss) split) ∙ before

  pub some_left : length now + length left ≤ cap → length now < cap
  some_left room = let long : length left ≡ suc (length rest) = ap (λ (ss : List Stage). length ss) split in omega (arith, room, long)
