-- The rows that filters and projects keep have the width of their columns.
use Rattle.std.proofs.Common.{◌≡◌, ℕ, List, [], ◌∷◌, Bool, true, false, length, map, subst}
use Rattle.std.specs.Prelude.{Ok, Err, if◌then◌else◌}
use Rattle.std.proofs.lemmas.List.{length-map}
use Rattle.std.proofs.lemmas.List.Elements.{All-append, All-cons, All-nil}
use Rattle.sql_values.specs.declared.types.SqlType.{SqlType}
use Rattle.sql_values.specs.declared.value.Value.{Value}
use Rattle.sql_functions.specs.Outcomes.{Outcome}
use Rattle.sql_functions.specs.Truth.{is_true}
use Rattle.sql_exprs.specs.Forms.{Form}
use Rattle.sql_exprs.specs.Meaning.{value_of}
use Rattle.relation_laws.specs.Verdicts.{keeps, drops, kept, kept_rows, verdict_of}
use Rattle.relation_laws.specs.Aggregates.{all_values}
use Rattle.relation_laws.specs.Widths.{HaveWidth}
use Rattle.relation_laws.proofs.WidthLemmas.{values_width}
use Rattle.plan_trees.specs.Judges.{filtered, project_judge}

abbrev pub Wide : ℕ → List Value → Type 0
Wide width row = length row ≡ width

kept_if : (width : ℕ) (row : List Value) (b : Bool) → length row ≡ width → HaveWidth width (kept (if b then keeps row else drops))
kept_if width row true wide = All-cons (Wide width) row [] wide (All-nil (Wide width))
kept_if width row false wide = All-nil (Wide width)

pub filtered_width : (width : ℕ) (row : List Value) (outcome : Outcome) → length row ≡ width → HaveWidth width (kept (filtered row outcome))
filtered_width width row (Ok v) wide = kept_if width row (is_true v) wide
filtered_width width row (Err kind) wide = All-nil (Wide width)

projected_width : (types : List SqlType) (columns : List Form) (row : List Value) → HaveWidth (length columns) (kept (project_judge types columns row))
projected_width types columns row =
    let outcomes = map (λ (column : Form). value_of types column row) columns in
    subst (λ n. HaveWidth n (kept (verdict_of (all_values outcomes)))) (length-map columns (λ column. value_of types column row)) (values_width outcomes)

pub project_width : (types : List SqlType) (columns : List Form) (rows : List (List Value)) → HaveWidth (length columns) (kept_rows (project_judge types columns) rows)
project_width types columns [] = All-nil (Wide (length columns))
project_width types columns (row ∷ rows) =
    All-append (Wide (length columns)) (kept (project_judge types columns row)) (kept_rows (project_judge types columns) rows)
    (projected_width types columns row) (project_width types columns rows)
