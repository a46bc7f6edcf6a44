-- The keys of the plan document, and the text of the place of a value in it.
use Rattle.std.specs.Prelude.{ℕ, List, ◌∷◌, codes}
use Rattle.std.specs.Fmt.{decimal}
use Rattle.std.specs.List.{flat_map}
use Rattle.json_paths.specs.declared.key.Key.{Key}
use Rattle.json_paths.specs.declared.key.Key.TheVariants as key
use Rattle.json_paths.specs.declared.step.Step.{Step}
use Rattle.json_paths.specs.declared.step.Step.TheVariants as step

-- the key as the document spells it
abbrev pub key_text : Key → List ℕ
key_text key.Version = codes "version"
key_text key.Output = codes "output"
key_text key.Tables = codes "tables"
key_text key.Fragments = codes "fragments"
key_text key.Name = codes "name"
key_text key.Columns = codes "columns"
key_text key.Type = codes "type"
key_text key.Id = codes "id"
key_text key.Placement = codes "placement"
key_text key.Root = codes "root"
key_text key.Kind = codes "kind"
key_text key.Op = codes "op"
key_text key.Table = codes "table"
key_text key.Types = codes "types"
key_text key.Rows = codes "rows"
key_text key.Fragment = codes "fragment"
key_text key.Predicate = codes "predicate"
key_text key.Input = codes "input"
key_text key.On = codes "on"
key_text key.Left = codes "left"
key_text key.Right = codes "right"
key_text key.Filters = codes "filters"
key_text key.Step = codes "step"
key_text key.Keys = codes "keys"
key_text key.Calls = codes "calls"
key_text key.Count = codes "count"
key_text key.Column = codes "column"
key_text key.Order = codes "order"
key_text key.Key = codes "key"
key_text key.Scan = codes "scan"
key_text key.Wait = codes "wait"
key_text key.Col = codes "col"
key_text key.Lit = codes "lit"
key_text key.Null = codes "null"
key_text key.Call = codes "call"
key_text key.Args = codes "args"
key_text key.Cast = codes "cast"
key_text key.Case = codes "case"
key_text key.Else = codes "else"
key_text key.When = codes "when"
key_text key.Then = codes "then"

-- a step of a JSON Pointer, after a slash: no key has a byte that a pointer escapes
abbrev pub step_text : Step → List ℕ
step_text (step.Key k) = 47 ∷ key_text k
step_text (step.Index i) = 47 ∷ decimal i

-- the JSON Pointer of a path
abbrev pub pointer_text : List Step → List ℕ
pointer_text path = flat_map step_text path
