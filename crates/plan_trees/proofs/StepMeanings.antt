-- What the tables of steps come to for each operator: what it gives, what it may have given, and where it may fail.
use Rattle.std.proofs.Common.{◌≡◌, ◌∙◌, ℕ, inl, inr, List, refl, take}
use Rattle.std.specs.Prelude.{◌↔◌, ◌⊎◌, Contains}
use Rattle.sql_values.specs.declared.value.Value.{Value}
use Rattle.sql_values.specs.declared.fail.Fail.{Fail}
use Rattle.sql_values.specs.declared.order.KeySpec.{KeySpec}
use Rattle.sql_values.specs.declared.relational.Call.{Call}
use Rattle.sql_values.specs.Bags.{SubBag}
use Rattle.sql_exprs.specs.Forms.{Form}
use Rattle.relation_laws.specs.Groups.{groups_of}
use Rattle.relation_laws.specs.Sorts.{IsBeginning, IsSortOf}
use Rattle.relation_laws.specs.Verdicts.{Verdict, fails, kept_rows}
use Rattle.plan_trees.specs.TreeForms.{TreeForm, aggregate, filter, limit, project, sort, topn}
use Rattle.plan_trees.specs.TreeTypes.{types_of}
use Rattle.plan_trees.specs.Judges.{filter_judge, project_judge}
use Rattle.plan_trees.specs.Allowed.{AllowsSkipping, Gives, Judged, Mode, Taken}
use Rattle.plan_trees.specs.Stopped.{MayFail, MayHaveGiven}

module _ (id : ℕ) (input : TreeForm) (tables : List (List (List Value))) where
  module _ (mode : Mode) (rows : List (List Value)) where
    abbrev Over : (List (List Value) → Type 0) → Type 0
    Over Made = (A : List (List Value)) × Gives mode input tables A × Made A

    filter-gives : (predicate : Form) → Gives mode (filter id predicate input) tables rows ↔ Over (λ A. Judged mode (filter_judge (types_of input) predicate) A rows)
    filter-gives predicate = (λ h. h, λ h. h)

    project-gives : (columns : List Form) → Gives mode (project id columns input) tables rows ↔ Over (λ A. Judged mode (project_judge (types_of input) columns) A rows)
    project-gives columns = (λ h. h, λ h. h)

    aggregate-gives : (keys : List ℕ) (calls : List Call)
        → Gives mode (aggregate id keys calls input) tables rows ↔ Over (λ A. Taken mode (groups_of (types_of input) keys calls A) rows)
    aggregate-gives keys calls = (λ h. h, λ h. h)

    sort-gives : (keys : List KeySpec) → Gives mode (sort id keys input) tables rows ↔ Over (λ A. IsSortOf keys A rows)
    sort-gives keys = (λ h. h, λ h. h)

    topn-gives : (count : ℕ) (keys : List KeySpec)
        → Gives mode (topn id count keys input) tables rows ↔ Over (λ A. (S : List (List Value)) × IsSortOf keys A S × (rows ≡ take count S))
    topn-gives count keys = (λ h. (h.0, h.1, (h.2.order, h.2.sorted, h.2.is)), λ h. (h.0, h.1, record { order = h.2.0; sorted = h.2.1; is = h.2.2 }))

    limit-gives : (count : ℕ) → Gives mode (limit id count input) tables rows ↔ Over (λ A. rows ≡ take count A)
    limit-gives count = (λ h. h, λ h. h)

  module _ (rows : List (List Value)) where
    -- what goes row by row was given of rows that came
    abbrev OfBegun : (List (List Value) → List (List Value)) → Type 0
    OfBegun makes = (A : List (List Value)) × MayHaveGiven input tables A × (rows ≡ makes A)

    filter-begins : (predicate : Form) → MayHaveGiven (filter id predicate input) tables rows ↔ OfBegun (kept_rows (filter_judge (types_of input) predicate))
    filter-begins predicate = (
      λ h. (h.0, h.2, h.4 ∙ h.3.are_kept),
      λ h. (h.0, rows, h.1, record { calm = tt; are_kept = h.2 }, refl),
    )

    project-begins : (columns : List Form) → MayHaveGiven (project id columns input) tables rows ↔ OfBegun (kept_rows (project_judge (types_of input) columns))
    project-begins columns = (
      λ h. (h.0, h.2, h.4 ∙ h.3.are_kept),
      λ h. (h.0, rows, h.1, record { calm = tt; are_kept = h.2 }, refl),
    )

    limit-begins : (count : ℕ) → MayHaveGiven (limit id count input) tables rows ↔ OfBegun (take count)
    limit-begins count = (λ h. (h.0, h.2, h.4 ∙ h.3), λ h. (h.0, rows, h.1, h.2, refl))

    -- what waits for its whole input gave some of a list that is allowed
    abbrev OfWhole : TreeForm → (List (List Value) → List (List Value) → Type 0) → Type 0
    OfWhole tree Some = (A : List (List Value)) × AllowsSkipping tree tables A × Some rows A

    aggregate-begins : (keys : List ℕ) (calls : List Call) → MayHaveGiven (aggregate id keys calls input) tables rows ↔ OfWhole (aggregate id keys calls input) SubBag
    aggregate-begins keys calls = (λ h. (h.1, (h.0, h.2, h.3), h.4), λ h. (h.1.0, h.0, h.1.1, h.1.2, h.2))

    sort-begins : (keys : List KeySpec) → MayHaveGiven (sort id keys input) tables rows ↔ OfWhole (sort id keys input) IsBeginning
    sort-begins keys = (λ h. (h.1, (h.0, h.2, h.3), h.4), λ h. (h.1.0, h.0, h.1.1, h.1.2, h.2))

    topn-begins : (count : ℕ) (keys : List KeySpec) → MayHaveGiven (topn id count keys input) tables rows ↔ OfWhole (topn id count keys input) IsBeginning
    topn-begins count keys = (λ h. (h.1, (h.0, h.2, h.3), h.4), λ h. (h.1.0, h.0, h.1.1, h.1.2, h.2))

  module _ (node : ℕ) (kind : Fail) where
    -- it fails on a row that its input may have given
    abbrev OnRow : (List Value → Verdict) → Type 0
    OnRow judge = (given : List (List Value)) × (row : List Value) × MayHaveGiven input tables given × Contains given row × (judge row ≡ fails kind)

    on_row : (predicate : Form) → MayFail (filter id predicate input) tables node kind → ((id ≡ node) × OnRow (filter_judge (types_of input) predicate)) ⊎ MayFail input tables node kind
    on_row predicate (inl (is, on)) = inl (is, (on.given, on.so.0, on.may, on.so.1, on.so.2))
    on_row predicate (inr below) = inr below

    of_row : (predicate : Form) → ((id ≡ node) × OnRow (filter_judge (types_of input) predicate)) ⊎ MayFail input tables node kind → MayFail (filter id predicate input) tables node kind
    of_row predicate (inl (is, on)) = inl (is, record { given = on.0; may = on.2; so = (on.1, on.3, on.4) })
    of_row predicate (inr below) = inr below

    filter-fails : (predicate : Form)
        → MayFail (filter id predicate input) tables node kind ↔ (((id ≡ node) × OnRow (filter_judge (types_of input) predicate)) ⊎ MayFail input tables node kind)
    filter-fails predicate = (on_row predicate, of_row predicate)

    on_columns : (columns : List Form) → MayFail (project id columns input) tables node kind → ((id ≡ node) × OnRow (project_judge (types_of input) columns)) ⊎ MayFail input tables node kind
    on_columns columns (inl (is, on)) = inl (is, (on.given, on.so.0, on.may, on.so.1, on.so.2))
    on_columns columns (inr below) = inr below

    of_columns : (columns : List Form) → ((id ≡ node) × OnRow (project_judge (types_of input) columns)) ⊎ MayFail input tables node kind → MayFail (project id columns input) tables node kind
    of_columns columns (inl (is, on)) = inl (is, record { given = on.0; may = on.2; so = (on.1, on.3, on.4) })
    of_columns columns (inr below) = inr below

    project-fails : (columns : List Form)
        → MayFail (project id columns input) tables node kind ↔ (((id ≡ node) × OnRow (project_judge (types_of input) columns)) ⊎ MayFail input tables node kind)
    project-fails columns = (on_columns columns, of_columns columns)

    -- it fails on a group of its whole input
    abbrev OnGroup : List ℕ → List Call → Type 0
    OnGroup keys calls = (given : List (List Value)) × AllowsSkipping input tables given × Contains (groups_of (types_of input) keys calls given) (fails kind)

    on_group : (keys : List ℕ) (calls : List Call) → MayFail (aggregate id keys calls input) tables node kind → ((id ≡ node) × OnGroup keys calls) ⊎ MayFail input tables node kind
    on_group keys calls (inl (is, on)) = inl (is, (on.given, on.may, on.so))
    on_group keys calls (inr below) = inr below

    of_group : (keys : List ℕ) (calls : List Call) → ((id ≡ node) × OnGroup keys calls) ⊎ MayFail input tables node kind → MayFail (aggregate id keys calls input) tables node kind
    of_group keys calls (inl (is, on)) = inl (is, record { given = on.0; may = on.1; so = on.2 })
    of_group keys calls (inr below) = inr below

    aggregate-fails : (keys : List ℕ) (calls : List Call) → MayFail (aggregate id keys calls input) tables node kind ↔ (((id ≡ node) × OnGroup keys calls) ⊎ MayFail input tables node kind)
    aggregate-fails keys calls = (on_group keys calls, of_group keys calls)

    -- the others fail nowhere
    in_sort : (keys : List KeySpec) → MayFail (sort id keys input) tables node kind → MayFail input tables node kind
    in_sort keys (inl (is, on)) = absurd on.so
    in_sort keys (inr below) = below

    sort-fails : (keys : List KeySpec) → MayFail (sort id keys input) tables node kind ↔ MayFail input tables node kind
    sort-fails keys = (in_sort keys, λ below. inr below)

    in_topn : (count : ℕ) (keys : List KeySpec) → MayFail (topn id count keys input) tables node kind → MayFail input tables node kind
    in_topn count keys (inl (is, on)) = absurd on.so
    in_topn count keys (inr below) = below

    topn-fails : (count : ℕ) (keys : List KeySpec) → MayFail (topn id count keys input) tables node kind ↔ MayFail input tables node kind
    topn-fails count keys = (in_topn count keys, λ below. inr below)

    in_limit : (count : ℕ) → MayFail (limit id count input) tables node kind → MayFail input tables node kind
    in_limit count (inl (is, on)) = absurd on.so
    in_limit count (inr below) = below

    limit-fails : (count : ℕ) → MayFail (limit id count input) tables node kind ↔ MayFail input tables node kind
    limit-fails count = (in_limit count, λ below. inr below)
