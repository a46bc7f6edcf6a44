-- Calls on texts. A text is a list of bytes in UTF-8, and `chars` are its code points.
use Rattle.std.specs.Prelude.{ℕ, ◌+◌, List, ◌++◌, length, pos, nat_le, if◌then◌else◌, chars, Ok, Err}
use Rattle.sql_values.specs.declared.value.Value.{Value}
use Rattle.sql_values.specs.declared.value.Value.TheVariants.{Null, Bigint, Varchar}
use Rattle.sql_values.specs.declared.fail.Fail.TheVariants.{TextTooLong}
use Rattle.sql_values.specs.Texts.{longest_text}
use Rattle.sql_functions.specs.Outcomes.{Outcome}

-- how many code points a text has
abbrev pub length_of : Value → Value
length_of (Varchar text) = Bigint (pos (length (chars text)))
length_of v = Null

-- both texts as one, where it is not too long
abbrev pub joined : List ℕ → List ℕ → Outcome
joined a b = if nat_le (length a + length b) longest_text then Ok (Varchar (a ++ b)) else Err TextTooLong

abbrev pub joined_with : Value → List ℕ → Outcome
joined_with (Varchar b) a = joined a b
joined_with w a = Ok Null

abbrev pub concat_of : Value → Value → Outcome
concat_of (Varchar a) w = joined_with w a
concat_of v w = Ok Null
