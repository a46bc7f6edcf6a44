-- The type of a form that stands at a path, over columns of given types; or the path of the first
-- form that breaks the table of calls and casts. Parts are typed before what they are parts of, from
-- the left.
use Rattle.std.specs.Prelude.{◌≡◌, ℕ, ◌+◌, List, [], ◌∷◌, ◌++◌, map, slice_get, Bool, ◌&&◌, if◌then◌else◌, Result, Ok, Err}
use Rattle.std.specs.Option.{ok_or}
use Rattle.std.specs.List.{list_all}
use Rattle.sql_values.specs.declared.types.SqlType.{SqlType}
use Rattle.json_paths.specs.declared.key.Key.{Key}
use Rattle.json_paths.specs.declared.key.Key.TheVariants as key
use Rattle.json_paths.specs.declared.step.Step.{Step}
use Rattle.json_paths.specs.declared.step.Step.TheVariants as step
use Rattle.json_paths.specs.Places.{pointer_text}
use Rattle.sql_values.specs.declared.value.Value.{Value}
use Rattle.sql_functions.specs.declared.name.CallName.{CallName}
use Rattle.sql_functions.specs.CallTypes.{can_cast, is_boolean, same_type, takes_types}
use Rattle.sql_exprs.specs.declared.expr.Expr.{Expr}
use Rattle.sql_exprs.specs.declared.expr.Branch.{Branch}
use Rattle.sql_exprs.specs.declared.typing.BranchType.{BranchType}
use Rattle.sql_exprs.specs.declared.typing.Misfit.{Misfit}
use Rattle.sql_exprs.specs.declared.typing.Misfit.TheVariants as misfit
use Rattle.sql_exprs.specs.declared.typing.TypeFault.{TypeFault}
use Rattle.sql_exprs.specs.declared.typing.TypeFault.TheVariants as fault
use Rattle.sql_exprs.specs.Forms.{Form, column, literal, null, call, cast, choice, Forms, none, more, Choices, last, branch, forms_of, choices_of, form_view, branch_view}
use Rattle.sql_exprs.specs.Meaning.{type_of_call}
use Rattle.sql_exprs.specs.Literals.{is_value_of}

abbrev pub Path : Type 0
Path = List Step

-- one step further, to the member under a key or to the entry at an index
abbrev pub under : Path → Key → Path
under path k = path ++ step.Key k ∷ []

abbrev pub entry : Path → ℕ → Path
entry path i = path ++ step.Index i ∷ []

abbrev pub typed_then : {A B : Type 0} → Result A Path → (A → Result B Path) → Result B Path
typed_then (Ok x) next = next x
typed_then (Err path) next = Err path

-- a literal that holds no value of its type is refused at its text
abbrev pub literal_row : Path → SqlType → Value → Result SqlType Path
literal_row path kind value = if is_value_of kind value then Ok kind else Err (under path key.Lit)

-- the type of a call whose arguments have these types
abbrev pub call_row : Path → CallName → List SqlType → Result SqlType Path
call_row path name kinds = if takes_types name kinds then Ok (type_of_call name kinds) else Err path

abbrev pub cast_row : Path → SqlType → SqlType → Result SqlType Path
cast_row path from to = if can_cast from to then Ok to else Err path

-- each test is boolean, and all results have the type of the other one
abbrev pub fits_branch : SqlType → BranchType → Bool
fits_branch other b = is_boolean b.test && same_type b.result other

abbrev pub case_row : Path → List BranchType → SqlType → Result SqlType Path
case_row path branches other = if list_all (fits_branch other) branches then Ok other else Err path

abbrev mutual
  pub form_type : List SqlType → Path → Form → Result SqlType Path
  form_type columns path (column n) = ok_or (slice_get columns n) path
  form_type columns path (literal kind value) = literal_row path kind value
  form_type columns path (null kind) = Ok kind
  form_type columns path (call name args) =
      typed_then (form_types columns (under path key.Args) 0 args) (call_row path name)
  form_type columns path (cast arg kind) =
      typed_then (form_type columns (under path key.Cast) arg) (λ from. cast_row path from kind)
  form_type columns path (choice branches other) =
      typed_then (branch_types columns (under path key.Case) 0 branches)
      (λ bs. typed_then (form_type columns (under path key.Else) other) (case_row path bs))

  pub form_types : List SqlType → Path → ℕ → Forms → Result (List SqlType) Path
  form_types columns path i none = Ok []
  form_types columns path i (more form forms) =
      typed_then (form_type columns (entry path i) form)
      (λ kind. typed_then (form_types columns path (i + 1) forms) (λ kinds. Ok (kind ∷ kinds)))

  pub branch_types : List SqlType → Path → ℕ → Choices → Result (List BranchType) Path
  branch_types columns path i last = Ok []
  branch_types columns path i (branch test result rest) =
      typed_then (form_type columns (under (entry path i) key.When) test)
      (λ t. typed_then (form_type columns (under (entry path i) key.Then) result)
      (λ r. typed_then (branch_types columns path (i + 1) rest)
      (λ bs. Ok (record { test = t; result = r } ∷ bs))))

-- of lists of expressions
abbrev pub arg_types : List SqlType → Path → ℕ → List Expr → Result (List SqlType) Path
arg_types columns path i args = form_types columns path i (forms_of (map form_view args))

abbrev pub all_branch_types : List SqlType → Path → ℕ → List Branch → Result (List BranchType) Path
all_branch_types columns path i branches =
    branch_types columns path i (choices_of (map branch_view branches))

-- of a branch that stands at a path
abbrev pub branch_type : List SqlType → Path → Branch → Result BranchType Path
branch_type columns path b =
    typed_then (form_type columns (under path key.When) (form_view b.test))
    (λ t. typed_then (form_type columns (under path key.Then) (form_view b.result))
    (λ r. Ok (record { test = t; result = r })))

-- the fault names the path, or memory was wanting
abbrev pub MisfitAt : {A : Type 0} → Result A Path → Misfit → Type 0
MisfitAt typing (misfit.At path) = typing ≡ Err path.items
MisfitAt typing misfit.Memory = Unit {0}

-- the fault names this path, or memory was wanting
abbrev pub StandsAt : Path → Misfit → Type 0
StandsAt path (misfit.At steps) = steps.items ≡ path
StandsAt path misfit.Memory = Unit {0}

-- the fault names the path as a pointer, or memory was wanting
abbrev pub RefusedFor : Result SqlType Path → TypeFault → Type 0
RefusedFor typing (fault.Refused pointer) =
    (path : Path) × (typing ≡ Err path) × (pointer ≡ pointer_text path)
RefusedFor typing fault.Memory = Unit {0}
