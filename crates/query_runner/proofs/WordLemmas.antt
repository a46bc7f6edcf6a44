-- What is answered where the arguments were not read.
use Rattle.std.proofs.Common.{◌≡◌, ◌⊎◌, inl, inr, ℕ, [], Option, Some, None, refl, subst, sym}
use Rattle.command_line.specs.Words.{Job, Refuses, no_job}
use Rattle.command_line.specs.declared.command.WordsFault.{WordsFault}
use Rattle.command_line.specs.declared.command.WordsFault.TheVariants as fault
use Rattle.query_runner.specs.Answers.{Answered, Heard, SeenOutside, Told, WroteNothing, seen_for, status_of_words}
use Rattle.query_runner.specs.Lines.{message}
use Rattle.query_runner.specs.declared.status.Status.{Status}
use Rattle.query_runner.specs.declared.status.Status.TheVariants as status

nothing_for : (demo : Option ℕ) (seen : SeenOutside) → WroteNothing seen → WroteNothing (seen_for demo seen)
nothing_for None seen nothing = nothing
nothing_for (Some number) seen nothing = nothing

-- memory was wanting, whatever the arguments ask for
memory_answered : (asked : Option Job) (seen : SeenOutside) (heard : Heard) → WroteNothing seen → Told heard (message no_job [] status.Memory) status.Memory
    → Answered asked seen heard status.Memory
memory_answered None seen heard nothing told = record { is = inr refl; nothing = nothing; told = told }
memory_answered (Some job) seen heard nothing told = inl (record { why = tt; nothing = nothing_for job.demo seen nothing; told = told })

bad_answered : (asked : Option Job) (seen : SeenOutside) (heard : Heard) → asked ≡ None → WroteNothing seen → Told heard (message no_job [] status.BadWords) status.BadWords
    → Answered asked seen heard status.BadWords
bad_answered asked seen heard none nothing told =
    subst (λ (a : Option Job). Answered a seen heard status.BadWords) (sym none) (record { is = inl refl; nothing = nothing; told = told })

refused_answered : (fault : WordsFault) (asked : Option Job) (seen : SeenOutside) (heard : Heard) → Refuses asked fault → WroteNothing seen
    → Told heard (message no_job [] (status_of_words fault)) (status_of_words fault) → Answered asked seen heard (status_of_words fault)
refused_answered fault.Bad asked seen heard none nothing told = bad_answered asked seen heard none nothing told
refused_answered fault.Memory asked seen heard any nothing told = memory_answered asked seen heard nothing told

-- the same of an answer that is reported so
pub words_answered : (fault : WordsFault) (answer : Status) (asked : Option Job) (seen : SeenOutside) (heard : Heard) → answer ≡ status_of_words fault → Refuses asked fault → WroteNothing seen
    → Told heard (message no_job [] answer) answer → Answered asked seen heard answer
words_answered fault answer asked seen heard is refused nothing told =
    subst (λ (a : Status). Answered asked seen heard a) (sym is)
    (refused_answered fault asked seen heard refused nothing (subst (λ (a : Status). Told heard (message no_job [] a) a) is told))
