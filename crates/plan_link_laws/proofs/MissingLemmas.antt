-- Where no name of a document is wrong, each table that a scan names is declared, and has the columns that it names.
use Rattle.std.proofs.Common.{◌≡◌, List, [], ◌∷◌, ◌++◌, Bool, true, false, cond, Option, Some, None, refl}
use Rattle.std.specs.Prelude.{not}
use Rattle.std.specs.List.{find}
use Rattle.std.specs.Option.{is_some}
use Rattle.serde_json.specs.Data.{Data}
use Rattle.json_paths.specs.declared.step.Step.{Step}
use Rattle.plan_grammar.specs.declared.kind.Kind.{Kind}
use Rattle.plan_grammar.specs.declared.kind.Kind.TheVariants as kind
use Rattle.plan_grammar.specs.Json.{text_of}
use Rattle.plan_grammar.specs.Spots.{Spot}
use Rattle.plan_checks.specs.Names.{first_misnamed, is_misnamed, misnames, scan_has, table_named}
use Rattle.plan_spreads.proofs.EachLemmas.{first_false, rest_none}

-- a scan's name of a table, or of a column, that is not declared
abbrev lacks : Kind → Data → Data → Data → Bool
lacks kind.ScanTable document owner value = not (is_some (table_named (text_of value) document))
lacks kind.ScanColumn document owner value = not (scan_has (text_of value) owner document)
lacks k document owner value = false

abbrev pub is_missing : Data → Spot → Bool
is_missing document s = lacks s.kind document s.owner s.value

not_lacking : (k : Kind) (document : Data) (before : List Spot) (path : List Step) (owner value : Data)
    → misnames k document before path owner value ≡ false → lacks k document owner value ≡ false
not_lacking kind.ScanTable document before path owner value h = h
not_lacking kind.ScanColumn document before path owner value h = h
not_lacking k document before path owner value h = refl

both_none : {A : Type 0} (b : Bool) (x : A) (rest : Option A) → b ≡ false → rest ≡ None → cond b (Some x) rest ≡ None
both_none false x rest is none = none
both_none true x rest is none = absurd cc

pub none_missing : (document : Data) (before all : List Spot) → first_misnamed document before all ≡ None → find (is_missing document) all ≡ None
none_missing document before [] e = refl
none_missing document before (s ∷ rest) e =
    let later = first_misnamed document (before ++ s ∷ []) rest in
    let here = first_false (is_misnamed document before s) s later e in
    both_none (is_missing document s) s (find (is_missing document) rest) (not_lacking s.kind document before s.path s.owner s.value here)
    (none_missing document (before ++ s ∷ []) rest (rest_none (is_misnamed document before s) s later e))
