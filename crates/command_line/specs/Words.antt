-- The command line: which arguments are one, and what it asks for.
use Rattle.std.specs.Prelude.{◌≡◌, ℕ, List, length, map, Bool, true, not, ◌&&◌, ◌≤◌, ◌<◌, ◌^◌, nat_lt, [], ◌∷◌, Option, Some, None, false, option_map, option_and_then, unwrap_or, slice_get, if◌then◌else◌, codes}
use Rattle.std.specs.List.{list_all, list_any, position_from}
use Rattle.command_line.specs.Items.{Item, begins_with_dash, first_part, items_of, named_in, same_text, second_part}
use Rattle.command_line.specs.Options.{Given, are_options, are_plain, counts_in, number_for, option_number, plan_option, row_of, written_in}
use Rattle.command_line.specs.declared.options.NumberOption.{NumberOption}
use Rattle.command_line.specs.declared.options.NumberOption.TheVariants as option
use Rattle.command_line.specs.declared.job as job
use Rattle.command_line.specs.declared.command.WordsFault.{WordsFault}
use Rattle.command_line.specs.declared.command.WordsFault.TheVariants as fault

-- a table's name and its file
pub record NamedFile : Type 0 where
  pub name : List ℕ
  pub file : List ℕ

-- what is run: the plan's file, and the files of tables by their names; with a demo its number too, and the names
-- are then those of its documents
pub record Source : Type 0 where
  pub plan : List ℕ
  pub files : List NamedFile
  pub demo : Option ℕ

-- what a command line asks for: what is run, the most rows of a split and of a page, the rows after whose move a
-- driver's turn ends, the workers, the tasks of a fragment and the drivers of a pipeline that may have several, the
-- number under which pages are delivered late, and whether filters are counted
pub record Job : Type 0 where
  pub plan : List ℕ
  pub files : List NamedFile
  pub demo : Option ℕ
  pub split : ℕ
  pub page : ℕ
  pub quantum : ℕ
  pub workers : ℕ
  pub tasks : ℕ
  pub drivers : ℕ
  pub replay : ℕ
  pub counts : Bool

-- the numbers of a job are within their bounds
pub record HasBounds (job : Job) : Type 0 where
  pub split_has_rows : 1 ≤ job.split
  pub split_is_bounded : job.split ≤ 1000000
  pub page_has_rows : 1 ≤ job.page
  pub page_is_bounded : job.page ≤ 8192
  pub quantum_has_rows : 1 ≤ job.quantum
  pub quantum_is_bounded : job.quantum ≤ 1000000
  pub workers_are_some : 1 ≤ job.workers
  pub workers_are_bounded : job.workers ≤ 64
  pub tasks_are_some : 1 ≤ job.tasks
  pub tasks_are_bounded : job.tasks ≤ 16
  pub drivers_are_some : 1 ≤ job.drivers
  pub drivers_are_bounded : job.drivers ≤ 16
  pub replay_is_bounded : job.replay < 2 ^ 64

-- an argument that may name a file: not empty, and no option
abbrev pub is_file_name : List ℕ → Bool
is_file_name word = nat_lt 0 (length word) && not (begins_with_dash word)

abbrev pub named_file : List ℕ → NamedFile
named_file word = record { name = first_part word; file = second_part word }

-- an argument `NAME=FILE`
abbrev pub is_named_file : List ℕ → Bool
is_named_file word = is_file_name word && nat_lt 0 (length (first_part word)) && nat_lt 0 (length (second_part word))

-- an argument gives a file to a table of this name
abbrev pub names : List ℕ → List ℕ → Bool
names name word = same_text (first_part word) name

-- no name is given a file twice
abbrev pub names_differ : List (List ℕ) → Bool
names_differ [] = true
names_differ (word ∷ words) = not (list_any (names (first_part word)) words) && names_differ words

-- the arguments give files to tables
abbrev pub are_named_files : List (List ℕ) → Bool
are_named_files words = list_all is_named_file words && names_differ words

-- a plan's file, and files of tables
abbrev pub source_of_files : List ℕ → List (List ℕ) → Source
source_of_files plan words = record { plan = plan; files = map named_file words; demo = None }

-- the documents of a demo, each under its own name
abbrev pub document : List ℕ → NamedFile
document name = record { name = name; file = name }

abbrev pub demo_files : List NamedFile
demo_files = document (codes "orders") ∷ document (codes "customers") ∷ []

abbrev pub source_of_demo : ℕ → Source
source_of_demo number = record { plan = codes "plan"; files = demo_files; demo = Some number }

-- exactly one of a plan's file and a demo is given, and with a demo there is no file of a table
abbrev pub source_given : Option (List ℕ) → Option (List ℕ) → List (List ℕ) → Option Source
source_given (Some plan) None words =
    if is_file_name plan && are_named_files words then Some (source_of_files plan words) else None
source_given None (Some number) [] = option_map source_of_demo (number_for (row_of option.Demo) number)
source_given (Some plan) (Some number) words = None
source_given None (Some number) (word ∷ words) = None
source_given None None words = None

abbrev pub source_in : Given → List (List ℕ) → Option Source
source_in given words = source_given (given plan_option) (given (row_of option.Demo).name) words

-- what follows from the number of an option
abbrev pub with_number : NumberOption → Given → (ℕ → Option Job) → Option Job
with_number option given job = option_and_then job (option_number option given)

-- what the options ask for of this source
abbrev pub job_with : Given → Source → Option Job
job_with given source =
    with_number option.Split given (λ split.
    with_number option.Page given (λ page.
    with_number option.Quantum given (λ quantum.
    with_number option.Workers given (λ workers.
    with_number option.Tasks given (λ tasks.
    with_number option.Drivers given (λ drivers.
    with_number option.Replay given (λ replay.
    option_map (λ counts. record {
      plan = source.plan;
      files = source.files;
      demo = source.demo;
      split = split;
      page = page;
      quantum = quantum;
      workers = workers;
      tasks = tasks;
      drivers = drivers;
      replay = replay;
      counts = counts;
    }) (counts_in given))))))))

-- what is asked for by what is written for the options, and by the arguments that belong to none
abbrev pub job_from : Given → List (List ℕ) → Option Job
job_from given words = if are_plain given then option_and_then (job_with given) (source_in given words) else None

abbrev pub job_of_items : List Item → Option Job
job_of_items items = if are_options items then job_from (λ name. written_in name items) (named_in items) else None

-- what the arguments ask for; None where they are no command line
abbrev pub job_of : List (List ℕ) → Option Job
job_of words = option_and_then job_of_items (items_of words)

-- a job of no file and of the usual numbers, for what is reported where the arguments are no command line
abbrev pub no_job : Job
no_job = record {
  plan = [];
  files = [];
  demo = None;
  split = 10000;
  page = 1024;
  quantum = 100000;
  workers = 2;
  tasks = 2;
  drivers = 2;
  replay = 0;
  counts = false;
}

-- the file of a table that borrows its arguments
abbrev pub told_file : job.NamedFile.NamedFile → NamedFile
told_file told = record { name = told.name.now; file = told.file.now }

abbrev pub asked_source : job.Source.Source → Source
asked_source told = record { plan = told.plan.now; files = map told_file told.files.items; demo = told.demo }

-- what a job that borrows its arguments asks for
abbrev pub asked : job.Job.Job → Job
asked told = record {
  plan = told.source.plan.now;
  files = map told_file told.source.files.items;
  demo = told.source.demo;
  split = told.split;
  page = told.page;
  quantum = told.quantum;
  workers = told.workers;
  tasks = told.tasks;
  drivers = told.drivers;
  replay = told.replay;
  counts = told.counts;
}

-- arguments were not read: they are no command line, or memory was wanting
abbrev pub Refuses : {A : Type 0} → Option A → WordsFault → Type 0
Refuses found fault.Bad = found ≡ None
Refuses found fault.Memory = Unit {0}

-- a file is that of the table of this name
abbrev pub is_named : List ℕ → NamedFile → Bool
is_named name file = same_text file.name name

-- the file at a place
abbrev pub file_at : List NamedFile → ℕ → List ℕ
file_at files place = unwrap_or (option_map (λ named. named.file) (slice_get files place)) []

-- the place of a table's file among the files, and the file
abbrev pub file_of : List ℕ → List NamedFile → Option (ℕ × List ℕ)
file_of name files = option_map (λ place. (place, file_at files place)) (position_from (is_named name) 0 files)

-- a file that borrows its argument
abbrev pub asked_file : job.TableFile.TableFile → ℕ × List ℕ
asked_file found = (found.place, found.file.now)
