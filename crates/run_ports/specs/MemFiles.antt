-- Files in memory, whose reads fail where they are told to.
use Rattle.std.specs.Prelude.{◌≡◌, ℕ, List, [], ◌∷◌, Option, Some, None, Result, Ok, Err, ⊤, nat_eq, if◌then◌else◌}
use Rattle.std.specs.Cmp.Lexicographic.{pointwise}
use Rattle.std.specs.declared.alloc.Global.{Global}
use Rattle.std.specs.declared.vec.Vec.{Vec}
use Rattle.run_ports.specs.FailingCalls.{fails_next, counted}
use Rattle.run_ports.specs.Reading.{refused_after, faults_after}
use Rattle.run_ports.specs.declared.files.FileFault.{FileFault}
use Rattle.run_ports.specs.declared.files.FileFault.TheVariants.{Failed, Memory}
use Rattle.run_ports.specs.declared.mem_files.MemFiles.{MemFiles}
use Rattle.run_ports.specs.declared.mem_files.NamedBytes.{NamedBytes}

-- the bytes of the first file of a name
abbrev pub held_in : List NamedBytes → List ℕ → Option (List ℕ)
held_in [] name = None
held_in (file ∷ files) name = if pointwise nat_eq file.name name then Some file.bytes.items else held_in files name

-- files that were not read yet
abbrev pub new_files : Vec NamedBytes Global → Vec ℕ Global → MemFiles
new_files files failing =
    record {
      files = files;
      calls = record { numbers = failing; made = 0 };
      refusals = record { count = 0; latest = None };
    }

-- what each name stands for
abbrev pub held_by : MemFiles → List ℕ → Option (List ℕ)
held_by files = held_in files.files.items

-- how many reads were answered Failed
abbrev pub faults_of : MemFiles → ℕ
faults_of files = files.refusals.count

-- the name of the latest of these
abbrev pub latest_of : MemFiles → Option (List ℕ)
latest_of files = files.refusals.latest

-- what the next read of a name gives: None for Failed
abbrev pub read_of : MemFiles → List ℕ → Option (List ℕ)
read_of files name = if fails_next files.calls then None else held_by files name

-- a read gave this, or memory was wanting
abbrev pub Answers : Result (Vec ℕ Global) FileFault → Option (List ℕ) → Type 0
Answers (Ok bytes) given = given ≡ Some bytes.items
Answers (Err Failed) given = given ≡ None
Answers (Err Memory) given = ⊤

-- the files after a read of `name` with this answer: what they hold stays
pub record FollowsRead (old new : MemFiles) (answer : Result (Vec ℕ Global) FileFault) (name : List ℕ) : Type 0 where
  pub files : new.files ≡ old.files
  pub calls : new.calls ≡ counted old.calls
  pub faults : faults_of new ≡ faults_after (faults_of old) answer
  pub latest : latest_of new ≡ refused_after (latest_of old) answer name
