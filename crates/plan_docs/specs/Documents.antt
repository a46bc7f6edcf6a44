-- The plan that a document means.
use Rattle.std.specs.Prelude.{map, Option, Some, None}
use Rattle.serde_json.specs.Data.{Data}
use Rattle.json_paths.specs.declared.key.Key.TheVariants as key
use Rattle.plan_grammar.specs.declared.words.OutputWord.{OutputWord}
use Rattle.plan_grammar.specs.declared.words.OutputWord.TheVariants as word
use Rattle.plan_grammar.specs.Json.{entries_under, text_under, under}
use Rattle.plan_grammar.specs.Words.{output_of}
use Rattle.plan_docs.specs.declared.plan.Output.{Output}
use Rattle.plan_docs.specs.declared.plan.Output.TheVariants as output
use Rattle.plan_docs.specs.declared.plan.TableDoc.{TableDoc}
use Rattle.plan_docs.specs.Parts.{columns_of, names_of, numbers_of}
use Rattle.plan_docs.specs.Plans.{FragmentForm, PlanForm}
use Rattle.plan_docs.specs.ReadNodes.{inner_under, node_form}
use Rattle.plan_docs.specs.Words.{placement_named}

abbrev pub table_of : Data → TableDoc
table_of d = record { name = text_under key.Name d; columns = columns_of (entries_under key.Columns d) }

-- an output of an unknown kind goes to one task
abbrev pub output_by : OutputWord → Data → Output
output_by word.Broadcast d = output.Broadcast
output_by word.Hash d = output.Hash (numbers_of (entries_under key.Columns d))
output_by w d = output.Single

-- a fragment without an output gives the result
abbrev pub output_in : Option Data → Output
output_in None = output.Result
output_in (Some d) = output_by (output_of d) d

abbrev pub fragment_of : Data → Data → FragmentForm
fragment_of document d = record {
  placement = placement_named (text_under key.Placement d);
  output = output_in (under key.Output d);
  root = inner_under (node_form document) key.Root d;
}

unfoldable pub plan_of : Data → PlanForm
plan_of d = record {
  output = names_of (entries_under key.Output d);
  tables = map table_of (entries_under key.Tables d);
  fragments = map (fragment_of d) (entries_under key.Fragments d);
}
