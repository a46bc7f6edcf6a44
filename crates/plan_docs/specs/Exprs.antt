-- The form of the expression that a value writes.
use Rattle.std.specs.Prelude.{ℕ, zero, suc, List, map, Option, Some, None, unwrap_or}
use Rattle.serde_json.specs.Data.{Data}
use Rattle.sql_values.specs.declared.types.SqlType.{SqlType}
use Rattle.sql_values.specs.declared.value.Value.TheVariants as value
use Rattle.sql_values.specs.Texts.{value_of_text}
use Rattle.sql_exprs.specs.Forms.{Form, column, literal, null, call, cast, choice, forms_of, choices_of}
use Rattle.json_paths.specs.declared.key.Key.{Key}
use Rattle.json_paths.specs.declared.key.Key.TheVariants as key
use Rattle.plan_grammar.specs.declared.words.FormWord.{FormWord}
use Rattle.plan_grammar.specs.declared.words.FormWord.TheVariants as word
use Rattle.plan_grammar.specs.Json.{entries_under, text_under, under}
use Rattle.plan_grammar.specs.Words.{form_of}
use Rattle.plan_docs.specs.Words.{call_named, small_under, type_under}

-- a text that writes no value of the type is NULL, which no literal is
abbrev pub literal_of : SqlType → List ℕ → Form
literal_of kind text = literal kind (unwrap_or (value_of_text kind text) value.Null)

-- what stands for an expression that is missing
abbrev pub missing : Form
missing = column 0

abbrev pub inner_form : (Data → Form) → Option Data → Form
inner_form inner None = missing
inner_form inner (Some d) = inner d

abbrev pub branch_by : (Data → Form) → Data → Form × Form
branch_by inner d = (inner_form inner (under key.When d), inner_form inner (under key.Then d))

-- the parts are read by `inner`
abbrev pub form_by : (Data → Form) → Data → FormWord → Form
form_by inner d word.Col = column (small_under key.Col d)
form_by inner d word.Lit = literal_of (type_under key.Type d) (text_under key.Lit d)
form_by inner d word.Null = null (type_under key.Null d)
form_by inner d word.Call = call (call_named (text_under key.Call d)) (forms_of (map inner (entries_under key.Args d)))
form_by inner d word.Cast = cast (inner_form inner (under key.Cast d)) (type_under key.Type d)
form_by inner d word.Case = choice (choices_of (map (branch_by inner) (entries_under key.Case d))) (inner_form inner (under key.Else d))

-- so many forms above one another
unfoldable pub form_at : ℕ → Data → Form
form_at zero d = missing
form_at (suc n) d = form_by (form_at n) d (form_of d)

-- an expression has at most 24
unfoldable pub expr_form : Data → Form
expr_form d = form_at 24 d

-- the expression under a key
abbrev pub expr_under : Key → Data → Form
expr_under key d = inner_form expr_form (under key d)
