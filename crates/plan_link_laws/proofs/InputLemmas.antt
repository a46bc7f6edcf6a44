-- At which place of their objects the words, the steps and the inputs of nodes stand.
use Rattle.std.proofs.Common.{◌≡◌, ◌-◌, ℕ, List, [], ◌∷◌, ◌++◌, length, take, Bool, true, false, Some, refl, ap, ◌∙◌}
use Rattle.std.specs.Prelude.{slice_get}
use Rattle.std.specs.List.{list_all}
use Rattle.serde_json.specs.Data.{Data}
use Rattle.json_paths.specs.declared.key.Key.TheVariants as key
use Rattle.plan_grammar.specs.declared.kind.Kind.TheVariants as kind
use Rattle.plan_grammar.specs.declared.tables.Part.{Part}
use Rattle.plan_grammar.specs.declared.words.OpWord.{OpWord}
use Rattle.plan_grammar.specs.declared.words.OpWord.TheVariants as op
use Rattle.plan_grammar.specs.declared.words.StepWord.{StepWord}
use Rattle.plan_grammar.specs.declared.words.StepWord.TheVariants as word
use Rattle.plan_grammar.specs.Grammar.{aggregate_parts, has_steps, join_parts, limit_parts, parts_of_node, topn_parts}
use Rattle.plan_grammar.specs.Json.{has_entry}
use Rattle.plan_grammar.specs.Tables.{part}
use Rattle.plan_grammar.specs.Words.{step_of}
use Rattle.plan_docs.specs.Nodes.{NodeForm}
use Rattle.plan_docs.specs.ReadNodes.{aggregate_of, inner_under, limit_of, node_by, top_n_of}
use Rattle.plan_spreads.specs.Halves.{Halved, aggregates, top_ns, limits}
use Rattle.plan_link_laws.proofs.CountLemmas.{plain_part}

-- of an operator that has steps: the parts of a node of each step, the node, and what its halves are halves of
abbrev pub step_parts : OpWord → StepWord → List Part
step_parts op.Aggregate s = aggregate_parts s
step_parts op.TopN s = topn_parts s
step_parts w s = limit_parts s

abbrev pub step_node : OpWord → StepWord → Data → NodeForm → NodeForm
step_node op.Aggregate s d input = aggregate_of s d input
step_node op.TopN s d input = top_n_of s d input
step_node w s d input = limit_of s d input

abbrev pub step_half : OpWord → Halved
step_half op.Aggregate = aggregates
step_half op.TopN = top_ns
step_half w = limits

pub parts_are : (w : OpWord) (d : Data) → has_steps w ≡ true → parts_of_node w d ≡ step_parts w (step_of d)
parts_are op.Scan d h = absurd cc
parts_are w d h = cc

pub node_is : (read : Data → NodeForm) (document d : Data) (w : OpWord) → has_steps w ≡ true → node_by read document d w ≡ step_node w (step_of d) d (inner_under read key.Input d)
node_is read document d op.Scan h = absurd cc
node_is read document d w h = cc

-- its word stands second, its step third, and its input last
pub record StepParts (parts : List Part) : Type 0 where
  pub word : slice_get parts 1 ≡ Some (part key.Op kind.Op)
  pub step : slice_get parts 2 ≡ Some (part key.Step kind.Step)
  pub plain : list_all plain_part (take (length parts - 1) parts) ≡ true
  pub last : parts ≡ take (length parts - 1) parts ++ part key.Input kind.Node ∷ []
  pub input : slice_get parts (length parts - 1) ≡ Some (part key.Input kind.Node)

pub have_parts : (w : OpWord) (s : StepWord) → StepParts (step_parts w s)
have_parts op.Aggregate word.Single = record { word = refl; step = refl; plain = refl; last = refl; input = refl }
have_parts w word.Single = record { word = refl; step = refl; plain = refl; last = refl; input = refl }
have_parts w word.Partial = record { word = refl; step = refl; plain = refl; last = refl; input = refl }
have_parts w s = record { word = refl; step = refl; plain = refl; last = refl; input = refl }

-- each node has its word second
join_word : (b : Bool) → slice_get (join_parts b) 1 ≡ Some (part key.Op kind.Op)
join_word true = refl
join_word false = refl

word_by : (b : Bool) (w : OpWord) (d : Data) → has_steps w ≡ b → slice_get (parts_of_node w d) 1 ≡ Some (part key.Op kind.Op)
word_by true w d h = ap (λ (parts : List Part). slice_get parts 1) (parts_are w d h) ∙ (have_parts w (step_of d)).word
word_by false op.Join d h = join_word (has_entry key.Filters d)
word_by false w d h = cc

pub word_second : (w : OpWord) (d : Data) → slice_get (parts_of_node w d) 1 ≡ Some (part key.Op kind.Op)
word_second w d = word_by (has_steps w) w d refl

-- an operator that has steps has them third
pub step_third : (w : OpWord) (d : Data) → has_steps w ≡ true → slice_get (parts_of_node w d) 2 ≡ Some (part key.Step kind.Step)
step_third w d h = ap (λ (parts : List Part). slice_get parts 2) (parts_are w d h) ∙ (have_parts w (step_of d)).step

-- and a FINAL one its input fourth
fourth_final : (w : OpWord) → slice_get (step_parts w word.Final) 3 ≡ Some (part key.Input kind.Node)
fourth_final op.Aggregate = refl
fourth_final w = refl

pub input_fourth : (w : OpWord) (d : Data) → has_steps w ≡ true → step_of d ≡ word.Final → slice_get (parts_of_node w d) 3 ≡ Some (part key.Input kind.Node)
input_fourth w d h is =
    ap (λ (parts : List Part). slice_get parts 3) (parts_are w d h) ∙ ap (λ (s : StepWord). slice_get (step_parts w s) 3) is ∙ fourth_final w

-- where the input of an operator with steps stands
pub record InputAt (parts : List Part) : Type 0 where
  pub place : ℕ
  pub is : slice_get parts place ≡ Some (part key.Input kind.Node)

pub input_at : (w : OpWord) (s : StepWord) → InputAt (step_parts w s)
input_at w s = record { place = length (step_parts w s) - 1; is = (have_parts w s).input }

pub aggregate_input : (w : StepWord) → InputAt (aggregate_parts w)
aggregate_input s = input_at op.Aggregate s

pub topn_input : (w : StepWord) → InputAt (topn_parts w)
topn_input s = input_at op.TopN s

pub limit_input : (w : StepWord) → InputAt (limit_parts w)
limit_input s = input_at op.Limit s

pub join_left : (b : Bool) → slice_get (join_parts b) 4 ≡ Some (part key.Left kind.Node)
join_left true = refl
join_left false = refl

pub join_right : (b : Bool) → slice_get (join_parts b) 5 ≡ Some (part key.Right kind.Node)
join_right true = refl
join_right false = refl
