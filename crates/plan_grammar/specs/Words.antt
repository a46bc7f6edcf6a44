-- The words that tell one object from another.
use Rattle.std.specs.Prelude.{ℕ, List, Bool, codes, if◌then◌else◌}
use Rattle.serde_json.specs.Data.{Data}
use Rattle.json_paths.specs.declared.key.Key.TheVariants as key
use Rattle.plan_grammar.specs.declared.words.FormWord.{FormWord}
use Rattle.plan_grammar.specs.declared.words.FormWord.TheVariants as form
use Rattle.plan_grammar.specs.declared.words.OpWord.{OpWord}
use Rattle.plan_grammar.specs.declared.words.OpWord.TheVariants as op
use Rattle.plan_grammar.specs.declared.words.OutputWord.{OutputWord}
use Rattle.plan_grammar.specs.declared.words.OutputWord.TheVariants as output
use Rattle.plan_grammar.specs.declared.words.StepWord.{StepWord}
use Rattle.plan_grammar.specs.declared.words.StepWord.TheVariants as step
use Rattle.plan_grammar.specs.Json.{has_entry, same_text, text_under}

abbrev pub op_named : List ℕ → OpWord
op_named text =
    if same_text text (codes "scan") then op.Scan
    else if same_text text (codes "values") then op.Values
    else if same_text text (codes "remote") then op.Remote
    else if same_text text (codes "filter") then op.Filter
    else if same_text text (codes "project") then op.Project
    else if same_text text (codes "join") then op.Join
    else if same_text text (codes "aggregate") then op.Aggregate
    else if same_text text (codes "sort") then op.Sort
    else if same_text text (codes "topn") then op.TopN
    else if same_text text (codes "limit") then op.Limit
    else if same_text text (codes "union") then op.Union
    else op.Unknown

abbrev pub op_of : Data → OpWord
op_of d = op_named (text_under key.Op d)

abbrev pub step_named : List ℕ → StepWord
step_named text =
    if same_text text (codes "SINGLE") then step.Single
    else if same_text text (codes "PARTIAL") then step.Partial
    else if same_text text (codes "FINAL") then step.Final
    else step.Unknown

abbrev pub step_of : Data → StepWord
step_of d = step_named (text_under key.Step d)

abbrev pub output_named : List ℕ → OutputWord
output_named text =
    if same_text text (codes "SINGLE") then output.Single
    else if same_text text (codes "BROADCAST") then output.Broadcast
    else if same_text text (codes "HASH") then output.Hash
    else output.Unknown

abbrev pub output_of : Data → OutputWord
output_of d = output_named (text_under key.Kind d)

-- the form of an expression; one with no key of a form lacks `col`
abbrev pub form_of : Data → FormWord
form_of d =
    if has_entry key.Lit d then form.Lit
    else if has_entry key.Null d then form.Null
    else if has_entry key.Call d then form.Call
    else if has_entry key.Cast d then form.Cast
    else if has_entry key.Case d then form.Case
    else form.Col

-- the aggregate call that has no column
abbrev pub is_count_all : Data → Bool
is_count_all d = same_text (text_under key.Name d) (codes "count_all")
