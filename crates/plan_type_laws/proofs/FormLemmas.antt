-- A text that a document has for a type stands for a type, so each cast of an expression names one.
use Rattle.std.proofs.Common.{◌≡◌, ℕ, zero, suc, List, [], ◌∷◌, map, Option, Some, None, refl}
use Rattle.std.specs.Prelude.{unwrap_or}
use Rattle.serde_json.specs.Data.{Data}
use Rattle.sql_values.specs.declared.types.SqlType.{SqlType}
use Rattle.sql_values.specs.declared.types.SqlType.TheVariants as kind
use Rattle.sql_values.specs.Types.{IsType}
use Rattle.sql_values.specs.TypeTexts.{type_of_text}
use Rattle.sql_exprs.specs.Forms.{Form, choices_of, forms_of}
use Rattle.json_paths.specs.declared.key.Key.TheVariants as key
use Rattle.plan_grammar.specs.declared.words.FormWord.{FormWord}
use Rattle.plan_grammar.specs.declared.words.FormWord.TheVariants as word
use Rattle.plan_grammar.specs.Json.{entries_under, text_under, under}
use Rattle.plan_grammar.specs.Words.{form_of}
use Rattle.plan_docs.specs.Exprs.{branch_by, expr_form, form_at, form_by, inner_form}
use Rattle.plan_docs.specs.Words.{type_named}
use Rattle.text_type_laws.proofs.TextLemmas.{named_is_type}
use Rattle.type_laws.specs.Keeps.{ArgsCastToTypes, CastsToTypes, BranchesCastToTypes}
use Rattle.tree_type_laws.specs.TypedTrees.{EachCastsToTypes}

-- a text that names no type stands for one all the same
pub named_type : (text : List ℕ) → IsType (type_named text)
named_type text = by_type (type_of_text text) (named_is_type text)
  where
    by_type : (o : Option SqlType) → ((k : SqlType) → o ≡ Some k → IsType k) → IsType (unwrap_or o kind.Boolean)
    by_type None named = tt
    by_type (Some k) named = named k refl

-- what reads forms whose casts name types
abbrev Reads : (Data → Form) → Type 0
Reads inner = (d : Data) → CastsToTypes (inner d)

inner_casts : (inner : Data → Form) → Reads inner → (o : Option Data) → CastsToTypes (inner_form inner o)
inner_casts inner each None = tt
inner_casts inner each (Some d) = each d

forms_cast : (inner : Data → Form) → Reads inner → (ds : List Data) → ArgsCastToTypes (forms_of (map inner ds))
forms_cast inner each [] = tt
forms_cast inner each (d ∷ ds) = (each d, forms_cast inner each ds)

choices_cast : (inner : Data → Form) → Reads inner → (ds : List Data) → BranchesCastToTypes (choices_of (map (branch_by inner) ds))
choices_cast inner each [] = tt
choices_cast inner each (d ∷ ds) = (inner_casts inner each (under key.When d), inner_casts inner each (under key.Then d), choices_cast inner each ds)

form_casts : (inner : Data → Form) → Reads inner → (d : Data) (w : FormWord) → CastsToTypes (form_by inner d w)
form_casts inner each d word.Col = tt
form_casts inner each d word.Lit = tt
form_casts inner each d word.Null = tt
form_casts inner each d word.Call = forms_cast inner each (entries_under key.Args d)
form_casts inner each d word.Cast = (named_type (text_under key.Type d), inner_casts inner each (under key.Cast d))
form_casts inner each d word.Case = (choices_cast inner each (entries_under key.Case d), inner_casts inner each (under key.Else d))

level_casts : (n : ℕ) → Reads (form_at n)
unfolding form_at
level_casts zero d = tt
level_casts (suc n) d = form_casts (form_at n) (level_casts n) d (form_of d)

expr_casts : Reads expr_form
unfolding expr_form
expr_casts d = level_casts 24 d

-- the form under a key, and the forms of a list
pub expr_under_casts : (o : Option Data) → CastsToTypes (inner_form expr_form o)
expr_under_casts o = inner_casts expr_form expr_casts o

pub exprs_cast : (ds : List Data) → EachCastsToTypes (map expr_form ds)
exprs_cast [] = tt
exprs_cast (d ∷ ds) = (expr_casts d, exprs_cast ds)
