-- `ProbeOp` probes, in what its note knows.
use Rattle.std.proofs.Common.{◌≡◌, ℕ, List, [], Option, Some, None, Bool, false, length, refl, ap, sym, subst, ◌∙◌}
use Rattle.std.specs.Prelude.{is_some, if◌then◌else◌}
use Rattle.std.specs.List.{zip}
use Rattle.std.proofs.lemmas.Bool.{eq-eqb}
use Rattle.sql_values.specs.declared.types.SqlType.{SqlType}
use Rattle.sql_values.specs.declared.relational.JoinKind.{JoinKind}
use Rattle.col_pages.specs.Fits.{AllFit}
use Rattle.operator_core.specs.Rows.{Row}
use Rattle.relation_laws.specs.Joins.{join_of}
use Rattle.join_index.specs.Keys.{IndexedRows}
use Rattle.hash_join.specs.Probes.{built_rows, joined_with}
use Rattle.hash_join.specs.Probing.{ProbeGives, ProbeState}
use Rattle.hash_join.specs.contracts.probe.ProbeOpOperator.TheImpl.{ghosts}
use Rattle.pipe_laws.specs.Lookups.{IsSourceOf, rows_known}
use Rattle.pipe_laws.specs.Operators.{Probes}

known_is : (known : Option IndexedRows) (rows : List Row) → rows_known known ≡ Some rows → (source : IndexedRows) × (known ≡ Some source) × (source.rows ≡ rows)
known_is None rows is = absurd cc
known_is (Some source) rows is = (source, refl, cc)

none_known : (known : Option IndexedRows) → rows_known known ≡ None → is_some known ≡ false
none_known None is = refl
none_known (Some source) is = absurd cc

all_built : (on : List ℕ) (source : IndexedRows) → length on ≡ length source.keys → built_rows on source ≡ source.rows
all_built on source level =
    ap (λ (b : Bool). if b then source.rows else []) (eq-eqb (length on) (length source.keys) level)

joined : (kind : JoinKind) (on keys : List ℕ) (left : ℕ) (right : List SqlType) (source : IndexedRows) (X rows : List Row) → IsSourceOf keys right source → source.rows ≡ rows
    → length on ≡ length keys → joined_with kind on source X ≡ join_of kind (zip on keys) left (length right) X rows
joined kind on keys left right source X rows of is level =
    ap (λ (ks : List ℕ). join_of kind (zip on ks) 0 (length source.types) X (built_rows on source)) of.by
    ∙ ap (λ (ts : List SqlType). join_of kind (zip on keys) 0 (length ts) X (built_rows on source)) of.of
    ∙ ap (join_of kind (zip on keys) 0 (length right) X) (all_built on source (level ∙ ap length (sym of.by)) ∙ is)

given : (kind : JoinKind) (on : List ℕ) (known : Option IndexedRows) (source : IndexedRows) (X Y : List Row) → known ≡ Some source → ProbeGives kind on known None X Y
    → Y ≡ joined_with kind on source X
given kind on None source X Y is gives = absurd cc
given kind on (Some other) source X Y is (found, same, all) =
    let here : other ≡ source = cc is in
    all ∙ ap (λ (i : IndexedRows). joined_with kind on i X) (same ∙ here)

pub probe_probes : (s : ProbeState) (keys : List ℕ) (left : ℕ) (right : List SqlType) → length s.on ≡ length keys
    → ((source : IndexedRows) → s.note.known ≡ Some source → IsSourceOf keys right source)
    → Probes ghosts s (rows_known s.note.known) s.kind (zip s.on keys) left right
probe_probes s keys left right level sources = record {
  waits = refl;
  unknown = λ none. none_known s.note.known none;
  gives = λ rows is X Y gives.
      let k = known_is s.note.known rows is in
      given s.kind s.on s.note.known k.0 X Y k.1 gives ∙ joined s.kind s.on keys left right k.0 X rows (sources k.0 k.1) k.2 level;
  fits = λ rows is.
      let k = known_is s.note.known rows is in
      let of = sources k.0 k.1 in
      subst (λ (ts : List SqlType). AllFit ts rows) of.of (subst (AllFit k.0.types) k.2 of.fit);
  calm = λ X node kind never. never;
}
