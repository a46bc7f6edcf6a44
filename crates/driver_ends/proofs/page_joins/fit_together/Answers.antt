use Rattle.std.proofs.Common.{◌≡◌, rules, sym, ◌∙◌}
use Rattle.std.specs.Bool.{Decides}
use Rattle.std.proofs.lemmas.Slice.Eq.{slice_eq-Decides}
use Rattle.sql_values.specs.declared.types.SqlType.{SqlType}
use Rattle.sql_values.specs.contracts.types.SqlTypePartialEq.TheImpl.{ghosts}
use Rattle.driver_ends.proofs.page_joins.fit_together.Goals as goal

same : (a b : SqlType) → Decides (ghosts.eq a b) (a ≡ b)
same a b = search rules

pub returns-then-has_room : goal.returns-then-has_room
returns-then-has_room c =
    let d = slice_eq-Decides same _ _ _ c.eq.ensures in (
      λ e. record {
        types = sym c.types.ensures.types ∙ d.0 e ∙ c.types-then-has_room.ensures.types;
        few = c.has_room.ensures.0 (search rules);
      },
      λ fit. d.1 (c.types.ensures.types ∙ fit.types ∙ sym c.types-then-has_room.ensures.types),
    )
