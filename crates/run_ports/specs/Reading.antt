-- What a read of a file gives, and what it leaves behind.
use Rattle.std.specs.Prelude.{◌≡◌, ℕ, List, Option, Some, None, Result, Ok, Err, ⊤}
use Rattle.count_laws.specs.Counts.{next_count}
use Rattle.run_ports.specs.declared.files.FileFault.{FileFault}
use Rattle.run_ports.specs.declared.files.FileFault.TheVariants.{Failed, Memory}

-- the bytes that a name stands for; any bytes where nothing is known
abbrev pub AreBytesOf : Option (List ℕ → Option (List ℕ)) → List ℕ → List ℕ → Type 0
AreBytesOf None name bytes = ⊤
AreBytesOf (Some held) name bytes = held name ≡ Some bytes

-- a fact for the answer Failed
abbrev pub IfFailed : {A : Type 0} → Result A FileFault → Type 0 → Type 0
IfFailed (Ok bytes) P = ⊤
IfFailed (Err Failed) P = P
IfFailed (Err Memory) P = ⊤

-- the name of the latest read that was answered Failed, once a read of `name` has this answer
abbrev pub refused_after : {A : Type 0} → Option (List ℕ) → Result A FileFault → List ℕ → Option (List ℕ)
refused_after old (Ok bytes) name = old
refused_after old (Err Failed) name = Some name
refused_after old (Err Memory) name = old

-- how many reads were answered Failed, once one more has this answer
abbrev pub faults_after : {A : Type 0} → ℕ → Result A FileFault → ℕ
faults_after old (Ok bytes) = old
faults_after old (Err Failed) = next_count old
faults_after old (Err Memory) = old
